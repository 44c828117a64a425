-- Marked machines written out as lists.
use Rattle.std.specs.Prelude.{ℕ, List, [], Bool, false, length, map, slice_index_or}
use Rattle.std.specs.List.{range_with_len}
use Rattle.lf_core.specs.declared.marked.Move.{Move}
use Rattle.lf_core.specs.Marked.{Machine}

-- A machine's start, its moves by point and byte, and by point whether it is an end.
pub record WrittenMachine : Type 0 where
  pub start : ℕ
  pub rows : List (List (List Move))
  pub ends : List Bool

-- how many points are written out
abbrev pub points_of : WrittenMachine → ℕ
points_of written_out = length written_out.rows

-- the moves from a point on a byte
abbrev pub moves_at : WrittenMachine → ℕ → ℕ → List Move
moves_at written_out point byte = slice_index_or (slice_index_or written_out.rows point []) byte []

-- whether a point is an end
abbrev pub is_end_at : WrittenMachine → ℕ → Bool
is_end_at written_out point = slice_index_or written_out.ends point false

-- the machine that is written out
abbrev pub machine_of : WrittenMachine → Machine
machine_of written_out = record {
  count = points_of written_out;
  first = written_out.start;
  moves = moves_at written_out;
  is_end = is_end_at written_out;
}

-- the moves from a point, byte by byte
unfoldable pub written_row : Machine → ℕ → List (List Move)
written_row machine point = map (machine.moves point) (range_with_len 0 256)

-- a machine, written out point by point
abbrev pub written : Machine → WrittenMachine
written machine = record {
  start = machine.first;
  rows = map (written_row machine) (range_with_len 0 machine.count);
  ends = map machine.is_end (range_with_len 0 machine.count);
}
