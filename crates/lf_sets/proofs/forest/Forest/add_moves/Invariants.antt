use Rattle.std.proofs.Common.{◌≡◌, length, take}
use Rattle.lf_sets.specs.Forests.{IsNumbered, GainsMoves}
use Rattle.lf_sets.proofs.forest.Forest.add_moves.Given as goal

abbrev pub invariant-loop-step : goal.invariant-loop-step
invariant-loop-step l = record {
  gains : GainsMoves l.level l.at (take l.step-index l.moves) l.fn.self.nodes.items l.self.nodes.items;
  numbered : IsNumbered l.level l.self.nodes.items l.self.places.items;
  places : length l.self.places.items ≡ length l.fn.self.places.items;
}
