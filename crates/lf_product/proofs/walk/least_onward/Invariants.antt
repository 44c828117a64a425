use Rattle.std.proofs.Common.{ℕ, ◌<◌}
use Rattle.lf_core.specs.Written.{machine_of}
use Rattle.lf_product.specs.declared.pair.Pair.{Pair}
use Rattle.lf_product.specs.Walk.{IsNextOf}
use Rattle.lf_product.proofs.walk.least_onward.Given as goal

abbrev pub invariant-loop-byte : goal.invariant-loop-byte
invariant-loop-byte l = (b : ℕ) (p : Pair) → b < l.byte → IsNextOf (machine_of l.pairs) l.steps l.level b p → ⊥
