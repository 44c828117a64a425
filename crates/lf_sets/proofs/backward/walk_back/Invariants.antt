use Rattle.std.proofs.Common.{ℕ, ◌<◌, ◌++◌, ◌-◌, List, length, drop, reverse}
use Rattle.lf_core.specs.Runs.{RunsToEnd}
use Rattle.lf_sets.specs.Forests.{point_at, IsTrail}
use Rattle.lf_sets.proofs.backward.walk_back.Given as goal

abbrev pub invariant-loop-k : goal.invariant-loop-k
invariant-loop-k g l = record {
  trail : IsTrail (g.M.Marked.machine l._m) l.points l.block l.nodes (length l.block - l._k) l.at;
  below : l.at < length l.nodes;
  ends : (rest : List ℕ) → RunsToEnd (g.M.Marked.machine l._m) (point_at l.nodes l.end) rest (reverse l.fn.back.items) → RunsToEnd (g.M.Marked.machine l._m) (point_at l.nodes l.at) (drop (length l.block - l._k) l.block ++ rest) (reverse l.back.items);
}
