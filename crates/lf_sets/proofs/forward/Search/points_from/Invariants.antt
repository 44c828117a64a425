use Rattle.std.proofs.Common.{◌≡◌, ℕ, ◌<◌, ◌≤◌}
use Rattle.std.specs.List.{Contains}
use Rattle.lf_sets.specs.Forests.{point_at}
use Rattle.lf_sets.proofs.forward.Search.points_from.Given as goal

abbrev pub invariant-loop-at : goal.invariant-loop-at
invariant-loop-at l = record {
  has : (p : ℕ) → Contains l.points.items p → (place : ℕ) × (l.level ≤ place) × (place < l.at) × (point_at l.self.forest.nodes.items place ≡ p);
  all : (place : ℕ) → l.level ≤ place → place < l.at → Contains l.points.items (point_at l.self.forest.nodes.items place);
}
