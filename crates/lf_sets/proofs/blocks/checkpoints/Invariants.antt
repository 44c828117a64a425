use Rattle.std.proofs.Common.{◌≡◌, ℕ, ◌+◌, ◌*◌, ◌≤◌, length, take, get_or}
use Rattle.std.specs.Prelude.{Vec}
use Rattle.std.specs.declared.alloc.Global.{Global}
use Rattle.lf_sets.specs.declared.blocks.TheConstants.{BLOCK}
use Rattle.lf_sets.specs.Reached.{AreReached}
use Rattle.lf_sets.proofs.blocks.checkpoints.Given as goal

abbrev pub invariant-loop-k : goal.invariant-loop-k
invariant-loop-k g l = record {
  len : length l.sets.items ≡ l.k + 1;
  each : (j : ℕ) (v : Vec ℕ Global) → j ≤ l.k → v ≡ get_or l.sets.items j v → AreReached (g.M.Marked.machine l.m) (take (j * BLOCK) l.line) v.items;
  places : length l.search.forest.places.items ≡ (g.M.Marked.machine l.m).count;
}
