use Rattle.std.proofs.Common.{ℕ, sym, subst}
use Rattle.lf_letters.specs.Plain.{IsPlain}
use Rattle.lf_letters.proofs.Marking.{marks-none, marks-more}
use Rattle.lf_letters.proofs.marks.plain_marks.Goals as goal

pub loop-letter-init : goal.loop-letter-init
loop-letter-init c = λ (b : ℕ) h. marks-none (λ (b : ℕ). IsPlain c.args.class c.args.code b) 256 b h

pub loop-letter-preserved : goal.loop-letter-preserved
loop-letter-preserved c =
    let P : ℕ → Type 0 = λ (b : ℕ). IsPlain c.args.class c.args.code b in
    let at = c.from.ensures in
    marks-more P c.loop-letter.marks c.from.result c.is_marked.result (λ t. subst P (sym at) (c.is_marked.ensures t)) c.loop-letter.invariant
