use Rattle.std.proofs.Common.{◌≡◌, ℕ, true, false, get_or}
use Rattle.lf_letters.specs.Plain.{IsPlain}
use Rattle.lf_letters.proofs.marks.plain_marks.Given as goal

abbrev pub invariant-loop-letter : goal.invariant-loop-letter
invariant-loop-letter l = (b : ℕ) → get_or l.marks b false ≡ true → IsPlain l.class l.code b
