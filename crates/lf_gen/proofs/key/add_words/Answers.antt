use Rattle.std.proofs.Common.{◌++◌, List, ℕ, take, sym, ap, ◌∙◌, append_assoc}
use Rattle.lf_escape.specs.Codes.{coded}
use Rattle.lf_escape.specs.Codings.{coding_word}
use Rattle.lf_format.proofs.Adding.{coded-more}
use Rattle.lf_gen.proofs.key.add_words.Goals as goal

pub loop-letter-preserved : goal.loop-letter-preserved
loop-letter-preserved c =
    let word = coding_word c.args.code in
    let l = c.loop-letter in
    let more = coded-more word c.args.letters.now l.letter-index 0 c.loop-letter-test.true in
    let front = coded word (take l.letter-index c.args.letters.now) in
    let added = c.as_slice.ensures.bytes ∙ c.word_of.ensures in
    c.in_ok-extend.ensures.ok ∙ ap (λ (x : List ℕ). x ++ c.as_slice.result.now) l.invariant ∙ append_assoc c.args.into.now front c.as_slice.result.now
    ∙ ap (λ (x : List ℕ). c.args.into.now ++ (front ++ x)) added ∙ ap (λ (x : List ℕ). c.args.into.now ++ x) (sym more)
