use Rattle.std.proofs.Common.{◌≤◌, ◌-◌, length}
use Rattle.lf_sets.specs.Forests.{HasPoint}
use Rattle.lf_sets.proofs.backward.point_place.Given as goal

abbrev pub invariant-nodes : goal.invariant-nodes
invariant-nodes l = record {
  from : l.level ≤ l.at;
  has : HasPoint l.nodes l.at l.point;
}

abbrev pub decreases-nodes : goal.decreases-nodes
decreases-nodes l = length l.nodes - l.at
