use Rattle.std.proofs.Common.{◌≡◌, ◌<◌, length}
use Rattle.lf_sets.specs.Forests.{IsNumbered, IsTraced}
use Rattle.lf_sets.proofs.forward.Search.trace.Given as goal

abbrev pub invariant-loop-byte : goal.invariant-loop-byte
invariant-loop-byte g l = record {
  traced : IsTraced (g.M.Marked.machine l.m) l.points l.block l.byte-index l.self.forest.nodes.items l.last;
  numbered : 0 < l.byte-index → IsNumbered l.last l.self.forest.nodes.items l.self.forest.places.items;
  places : length l.self.forest.places.items ≡ (g.M.Marked.machine l.m).count;
}
