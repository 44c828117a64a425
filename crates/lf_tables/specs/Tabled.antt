-- What a table says of a machine: where each byte leads from each set of points.
use Rattle.std.specs.Prelude.{◌≡◌, ℕ, ◌+◌, ◌*◌, ◌<◌, ◌≤◌, List, [], ◌∷◌, Bool, true, false, Option, ◌&&◌, ◌==◌, length, slice_index, slice_index_or}
use Rattle.std.specs.List.{list_any}
use Rattle.std.specs.Option.{ForSome, ForNone}
use Rattle.lf_core.specs.declared.marked.Move.{Move}
use Rattle.lf_core.specs.Marked.{Machine, no_move}
use Rattle.lf_tables.specs.declared.ways.Back.{Back}
use Rattle.lf_tables.specs.Ways.{back_at, to_at}

abbrev pub is_move : Move → Move → Bool
is_move x y = (x.mark == y.mark) && (x.to == y.to)

abbrev pub has_move : List Move → Move → Bool
has_move moves x = list_any (is_move x) moves

abbrev pub has_point : List ℕ → ℕ → Bool
has_point points p = list_any (λ q. p == q) points

-- the points of a set, by its number
abbrev pub set_at : List (List ℕ) → ℕ → List ℕ
set_at sets s = slice_index_or sets s []

-- Where a class of bytes leads from a set: the next set, and where the ways back from its points begin.
pub record Cell : Type 0 where
  pub next : ℕ
  pub start : ℕ

-- cells, whose next sets and starts stand in two lists
abbrev pub cells_of : List ℕ → List ℕ → List Cell
cells_of [] starts = []
cells_of (n ∷ nexts) [] = []
cells_of (n ∷ nexts) (s ∷ starts) = record { next = n; start = s } ∷ cells_of nexts starts

-- a cell that stands for none
abbrev pub no_cell : Cell
no_cell = record { next = 0; start = 0 }

abbrev pub cell_at : List Cell → ℕ → Cell
cell_at cells k = slice_index_or cells k no_cell

-- the cell of a set and a byte
abbrev pub cell_of : List ℕ → ℕ → List Cell → ℕ → ℕ → Cell
cell_of class_of classes cells s b = cell_at cells (s * classes + slice_index class_of b)

-- the way's move leads on the byte from the point at its place
pub record IsWayBack (machine : Machine) (points : List ℕ) (byte : ℕ) (back : Back) : Type 0 where
  pub place : back.before < length points
  pub by : has_move (machine.moves (slice_index points back.before) byte) back.step ≡ true

-- The next set of the cell has just the points to which the byte leads from the points, and a way back stands from each.
pub record IsCell (machine : Machine) (sets : List (List ℕ)) (backs : List Back) (points : List ℕ) (byte : ℕ) (cell : Cell) : Type 0 where
  pub next : cell.next < length sets
  pub within : cell.start + length (set_at sets cell.next) ≤ length backs
  pub ways : (k : ℕ) → k < length (set_at sets cell.next) → IsWayBack machine points byte (back_at backs (cell.start + k))
  pub from : (k : ℕ) → k < length (set_at sets cell.next) → to_at backs (cell.start + k) ≡ slice_index (set_at sets cell.next) k
  pub all : (k i : ℕ) → k < length points → i < length (machine.moves (slice_index points k) byte) →
      has_point (set_at sets cell.next) (slice_index_or (machine.moves (slice_index points k) byte) i no_move).to ≡ true

-- the ways back of the cell are these
pub record HasWays (sets : List (List ℕ)) (backs : List Back) (cell : Cell) (ways : List Back) : Type 0 where
  pub each : length (set_at sets cell.next) ≡ length ways
  pub same : (k : ℕ) → k < length ways → back_at backs (cell.start + k) ≡ back_at ways k

-- the next set of each cell stands among the sets, and its ways back among the others
abbrev pub AreStored : List (List ℕ) → List Cell → List Back → Type 0
AreStored sets cells backs = (k : ℕ) → k < length cells →
    ((cell_at cells k).next < length sets) × ((cell_at cells k).start + length (set_at sets (cell_at cells k).next) ≤ length backs)

-- where an end stands among the points, if there is one
pub record IsEndOf (machine : Machine) (points : List ℕ) (end : Option ℕ) : Type 0 where
  pub some : ForSome end (λ k. (k < length points) × (machine.is_end (slice_index points k) ≡ true))
  pub none : ForNone end ((k : ℕ) → k < length points → machine.is_end (slice_index points k) ≡ false)

-- The first set is that of the start alone; each set has a cell for each byte, and tells where an end stands.
pub record IsTabled (machine : Machine) (sets : List (List ℕ)) (class_of : List ℕ) (classes : ℕ) (cells : List Cell) (backs : List Back) (ends : List (Option ℕ)) : Type 0 where
  pub some : 0 < length sets
  pub begins : set_at sets 0 ≡ machine.first ∷ []
  pub bytes : length class_of ≡ 256
  pub classed : (b : ℕ) → b < 256 → slice_index class_of b < classes
  pub full : length cells ≡ length sets * classes
  pub led : (s b : ℕ) → s < length sets → b < 256 → IsCell machine sets backs (set_at sets s) b (cell_of class_of classes cells s b)
  pub each : length ends ≡ length sets
  pub ended : (s : ℕ) (e : Option ℕ) → s < length sets → e ≡ slice_index_or ends s e → IsEndOf machine (set_at sets s) e

-- the set after the line, by the set after each byte
abbrev pub after : (ℕ → ℕ → ℕ) → ℕ → List ℕ → ℕ
after next s [] = s
after next s (b ∷ line) = after next (next s b) line

-- the set after the line, from the first set on
abbrev pub set_after : List ℕ → ℕ → List Cell → List ℕ → ℕ
set_after class_of classes cells line = after (λ s b. (cell_of class_of classes cells s b).next) 0 line
