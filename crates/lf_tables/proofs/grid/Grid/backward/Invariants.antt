use Rattle.std.proofs.Common.{◌-◌, ◌<◌, length, map, take, drop, reverse}
use Rattle.std.specs.Prelude.{slice_index}
use Rattle.lf_core.specs.Runs.{RunsToEnd}
use Rattle.lf_core.specs.Written.{machine_of}
use Rattle.lf_tables.specs.Tabled.{cells_of, set_at, set_after}
use Rattle.lf_tables.proofs.grid.Grid.backward.Given as goal

abbrev pub invariant-loop-k : goal.invariant-loop-k
invariant-loop-k l = record {
  place : l.place < length (set_at (map (λ v. v.items) l.self.sets.value.items) (set_after l.self.class_of.items l.self.classes (cells_of l.self.nexts.items l.self.starts.items) (take (length l.line - l.k) l.line)));
  ends : RunsToEnd (machine_of l.self.machine.value) (slice_index (set_at (map (λ v. v.items) l.self.sets.value.items) (set_after l.self.class_of.items l.self.classes (cells_of l.self.nexts.items l.self.starts.items) (take (length l.line - l.k) l.line))) l.place) (drop (length l.line - l.k) l.line) (reverse l.moves.items);
}
