use Rattle.std.proofs.Common.{◌≡◌, ℕ, ◌<◌, ◌||◌, drop}
use Rattle.lf_core.specs.Class.{is_member}
use Rattle.lf_narrow.specs.Terms.{is_listed, is_in_set}
use Rattle.lf_narrow.proofs.sets.set_of.Given as goal

abbrev pub invariant-loop-byte : goal.invariant-loop-byte
invariant-loop-byte l = (x : ℕ) → x < 256 → (is_member l.reading.set x || is_listed x l.reading.stage l.reading.first l.reading.last (drop l.byte-index l.text)) ≡ is_in_set l.text x
