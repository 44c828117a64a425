use Rattle.std.proofs.Common.{◌≡◌, length}
use Rattle.lf_sets.specs.Forests.{IsNumbered, GainsStep}
use Rattle.lf_sets.proofs.forward.Search.step.Given as goal

abbrev pub invariant-loop-at : goal.invariant-loop-at
invariant-loop-at g l = record {
  gains : GainsStep (g.M.Marked.machine l.m) l.byte (length l.fn.self.forest.nodes.items) l.last l.at l.fn.self.forest.nodes.items l.self.forest.nodes.items;
  numbered : IsNumbered (length l.fn.self.forest.nodes.items) l.self.forest.nodes.items l.self.forest.places.items;
  places : length l.self.forest.places.items ≡ (g.M.Marked.machine l.m).count;
}
