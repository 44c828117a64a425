use Rattle.std.proofs.Common.{◌≡◌, ℕ, ◌<◌, length, true}
use Rattle.lf_core.specs.Written.{machine_of}
use Rattle.lf_witness.specs.Sets.{has_point, LeadsInto}
use Rattle.lf_witness.proofs.sets.before.Given as goal

abbrev pub invariant-loop-point : goal.invariant-loop-point
invariant-loop-point l = record {
  len : length l.set.items ≡ l.point;
  from : (p : ℕ) → p < l.point → has_point l.set.items p ≡ true → LeadsInto ((machine_of l.table).moves p l.byte) l.after;
  all : (p : ℕ) → p < l.point → LeadsInto ((machine_of l.table).moves p l.byte) l.after → has_point l.set.items p ≡ true;
}
