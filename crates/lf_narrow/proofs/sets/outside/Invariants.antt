use Rattle.std.proofs.Common.{◌≡◌, ℕ, ◌<◌, ◌&&◌, ltb, not}
use Rattle.lf_core.specs.Class.{is_member}
use Rattle.lf_narrow.proofs.sets.outside.Given as goal

abbrev pub invariant-loop-byte : goal.invariant-loop-byte
invariant-loop-byte l = (x : ℕ) → x < 256 → is_member l.all x ≡ not (ltb x l.byte && is_member l.set x)
