use Rattle.std.proofs.Common.{◌≡◌, ℕ, ◌<◌, length, take}
use Rattle.std.specs.Prelude.{slice_index}
use Rattle.lf_tables.specs.Tabled.{cells_of, set_after}
use Rattle.lf_tables.proofs.grid.Grid.forward.Given as goal

abbrev pub invariant-loop-byte : goal.invariant-loop-byte
invariant-loop-byte l = record {
  each : length l.trail.items ≡ l.byte-index;
  trail : (k : ℕ) → k < l.byte-index → slice_index l.trail.items k ≡ set_after l.self.class_of.items l.self.classes (cells_of l.self.nexts.items l.self.starts.items) (take k l.line);
  last : l.set ≡ set_after l.self.class_of.items l.self.classes (cells_of l.self.nexts.items l.self.starts.items) (take l.byte-index l.line);
  low : l.set < length l.self.sets.value.items;
}
