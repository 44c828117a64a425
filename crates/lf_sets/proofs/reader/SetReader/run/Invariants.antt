use Rattle.std.proofs.Common.{◌≡◌, ◌-◌, ◌*◌, [], ◌∷◌, length, take, drop, reverse}
use Rattle.lf_sets.specs.declared.blocks.TheConstants.{BLOCK}
use Rattle.lf_core.specs.Runs.{RunsToEnd}
use Rattle.lf_sets.specs.Reached.{IsLedTo}
use Rattle.lf_sets.proofs.reader.SetReader.run.Given as goal

abbrev pub invariant-loop-k : goal.invariant-loop-k
invariant-loop-k g l = record {
  led : IsLedTo (g.M.Marked.machine l.m) ((g.M.Marked.machine l.m).first ∷ []) (take ((l.last - l.k) * BLOCK) l.line) l.point;
  ends : RunsToEnd (g.M.Marked.machine l.m) l.point (drop ((l.last - l.k) * BLOCK) l.line) (reverse l.back.items);
  places : length l.search.forest.places.items ≡ (g.M.Marked.machine l.m).count;
}
