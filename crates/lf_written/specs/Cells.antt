-- A machine's moves in one list, cell by cell.
use Rattle.std.specs.Prelude.{◌≡◌, ℕ, ◌+◌, ◌*◌, ◌<◌, ◌≤◌, List, Bool, length, map, slice_index_or, slice_range}
use Rattle.std.specs.List.{range_with_len}
use Rattle.lf_core.specs.declared.marked.Move.{Move}
use Rattle.lf_core.specs.Marked.{Machine}
use Rattle.lf_core.specs.Written.{WrittenMachine}

-- where a cell's moves begin
abbrev pub start_of : List ℕ → ℕ → ℕ
start_of starts cell = slice_index_or starts cell 0

-- a cell's moves: those from its start to the next cell's
abbrev pub moves_in : List ℕ → List Move → ℕ → List Move
moves_in starts moves cell = slice_range moves (start_of starts cell) (start_of starts (cell + 1))

-- There are so many cells, and each one's moves stand in the list.
pub record AreCells (starts : List ℕ) (moves : List Move) (many : ℕ) : Type 0 where
  pub each : length starts ≡ many + 1
  pub ordered : (cell : ℕ) → cell < many → start_of starts cell ≤ start_of starts (cell + 1)
  pub within : (cell : ℕ) → cell < many → start_of starts (cell + 1) ≤ length moves

-- The machine's moves from each point on each byte are those of their cell.
abbrev pub HoldMoves : Machine → List ℕ → List Move → Type 0
HoldMoves machine starts moves =
    (point byte : ℕ) → point < machine.count → byte < 256 → moves_in starts moves (point * 256 + byte) ≡ machine.moves point byte

-- the moves from a point, byte by byte
abbrev pub row_in : List ℕ → List Move → ℕ → List (List Move)
row_in starts moves point = map (λ byte. moves_in starts moves (point * 256 + byte)) (range_with_len 0 256)

-- what so many points, a start, cells and ends write out
abbrev pub laid_out : ℕ → ℕ → List ℕ → List Move → List Bool → WrittenMachine
laid_out points first starts moves flags = record {
  start = first;
  rows = map (row_in starts moves) (range_with_len 0 points);
  ends = flags;
}

-- There are 256 cells for each point, and each point says whether it is an end.
pub record AreLaid (points : ℕ) (starts : List ℕ) (moves : List Move) (flags : List Bool) : Type 0 where
  pub cells : AreCells starts moves (points * 256)
  pub each_point : length flags ≡ points
