use Rattle.std.proofs.Common.{◌≡◌, ℕ, ◌<◌, length}
use Rattle.lf_core.specs.Written.{machine_of}
use Rattle.lf_witness.specs.Sets.{has_point}
use Rattle.lf_witness.proofs.sets.ends_of.Given as goal

abbrev pub invariant-loop-point : goal.invariant-loop-point
invariant-loop-point l = record {
  len : length l.set.items ≡ l.point;
  ends : (p : ℕ) → p < l.point → has_point l.set.items p ≡ (machine_of l.table).is_end p;
}
