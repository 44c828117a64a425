use Rattle.std.proofs.Common.{◌≡◌, ℕ, ◌<◌, ◌&&◌, ◌||◌, ltb}
use Rattle.lf_core.specs.Class.{is_member}
use Rattle.lf_syntax.specs.Leaf.{is_within}
use Rattle.lf_narrow.proofs.sets.with_range.Given as goal

abbrev pub invariant-loop-byte : goal.invariant-loop-byte
invariant-loop-byte l = (x : ℕ) → x < 256 → is_member l.all x ≡ (is_member l.fn.set x || (ltb x l.byte && is_within l.first l.last x))
