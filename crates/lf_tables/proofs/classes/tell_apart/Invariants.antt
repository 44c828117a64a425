use Rattle.std.proofs.Common.{◌≡◌, ℕ, ◌+◌, ◌-◌, ◌<◌, ◌≤◌, length, slice_index}
use Rattle.lf_core.specs.Written.{machine_of}
use Rattle.lf_tables.specs.Classes.{AreAlike}
use Rattle.lf_tables.proofs.classes.tell_apart.Given as goal

abbrev pub invariant-loop-above : goal.invariant-loop-above
invariant-loop-above l = record {
  each : length l.firsts ≡ 256;
  low : (b : ℕ) → b < 256 → slice_index l.firsts b ≤ b;
  before : (b : ℕ) → b < 256 - l.above → AreAlike (machine_of l.table) l.point b (slice_index l.firsts b);
  after : (b : ℕ) → 256 - l.above ≤ b → b < 256 → AreAlike (machine_of l.table) (l.point + 1) b (slice_index l.firsts b);
}
