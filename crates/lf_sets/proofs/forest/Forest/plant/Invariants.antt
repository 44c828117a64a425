use Rattle.std.proofs.Common.{◌≡◌, ℕ, ◌<◌, length, slice_index_or}
use Rattle.lf_sets.specs.Forests.{point_at}
use Rattle.lf_sets.proofs.forest.Forest.plant.Given as goal

abbrev pub invariant-loop-point : goal.invariant-loop-point
invariant-loop-point l = record {
  each : length l.self.nodes.items ≡ l.point-index;
  same : (k : ℕ) → k < l.point-index → point_at l.self.nodes.items k ≡ slice_index_or l.points k 0;
  places : length l.self.places.items ≡ length l.fn.self.places.items;
}
