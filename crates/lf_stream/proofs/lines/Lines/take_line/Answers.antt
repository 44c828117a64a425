use Rattle.std.proofs.Common.{◌≡◌, ◌++◌, take, drop, arith, sym, ◌∙◌, ap, append_assoc, subst}
use Rattle.std.specs.Prelude.{slice_range}
use Rattle.std.proofs.lemmas.List.{length-take-le}
use Rattle.std.proofs.lemmas.List.Edits.{split_between}
use Rattle.lf_stream.specs.Cut.{line_of}
use Rattle.lf_stream.specs.Marks.{IsMark}
use Rattle.lf_stream.specs.Sorts.{Holds}
use Rattle.lf_stream.proofs.lines.Lines.take_line.Goals as goal

pub returns-clause-mark : goal.returns-clause-mark
returns-clause-mark c = λ line holds.
    let l = c.args.self.now in
    let text = l.buffer.bytes.items in
    let start = l.buffer.start in
    let same : slice_range c.deref.result.now start c.args.to ≡ slice_range text start c.args.to = ap (λ zs. slice_range zs start c.args.to) c.deref.ensures.value in
    let whole : take start text ++ slice_range c.deref.result.now start c.args.to ++ drop c.args.to text ≡ text =
    ap (λ zs. take start text ++ zs ++ drop c.args.to text) same ∙ append_assoc (take start text) (slice_range text start c.args.to) (drop c.args.to text) ∙ sym (split_between text start c.args.to c.requires.from) in
    subst (λ zs. IsMark l.notes zs (line_of l.notes line) c.mark-mark.result) whole
    (c.mark-mark.ensures.mark (take start text) (drop c.args.to text) line (length-take-le start text (omega (arith, l.buffer.filled, l.buffer.from, l.buffer.to))) (subst (λ zs. Holds l.notes l.first_sort zs line) (sym same) holds))
