use Rattle.std.proofs.Common.{◌≡◌, ℕ, ◌+◌, ◌-◌, ◌≤◌, length, drop, Bool, get_or}
use Rattle.std.specs.Prelude.{Vec}
use Rattle.std.specs.declared.alloc.Global.{Global}
use Rattle.lf_core.specs.Written.{machine_of}
use Rattle.lf_witness.specs.Sets.{AreEnding}
use Rattle.lf_witness.proofs.sets.sets_of.Given as goal

abbrev pub invariant-loop-k : goal.invariant-loop-k
invariant-loop-k l = record {
  len : length l.sets.items ≡ l.k + 1;
  each : (j : ℕ) (v : Vec Bool Global) → j ≤ l.k → v ≡ get_or l.sets.items j v → AreEnding (machine_of l.table) (drop (length l.line - j) l.line) v.items;
}
