use Rattle.std.proofs.Common.{◌≡◌, ℕ, ◌<◌, ◌&&◌, leb, ltb}
use Rattle.lf_core.specs.Class.{is_member}
use Rattle.lf_core.proofs.class.Class.of.Given as goal

abbrev pub invariant-loop-b : goal.invariant-loop-b
invariant-loop-b l = (x : ℕ) → x < 256 → is_member l.all x ≡ (ltb x l.b && (leb l.first x && leb x l.last))
