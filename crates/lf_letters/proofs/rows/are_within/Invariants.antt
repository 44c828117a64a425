use Rattle.std.proofs.Common.{◌≡◌, ℕ, ◌<◌, true, false, get_or}
use Rattle.lf_letters.specs.Rows.{row_holds}
use Rattle.lf_letters.proofs.rows.are_within.Given as goal

abbrev pub invariant-loop-letter : goal.invariant-loop-letter
invariant-loop-letter l = (b : ℕ) → b < l.letter → row_holds l.rows b ≡ true → get_or l.marks b false ≡ true
