-- What is laid out in cells is the machine, written out.
use Rattle.std.proofs.Common.{◌≡◌, ℕ, zero, suc, ◌+◌, ◌*◌, ◌<◌, List, [], ◌∷◌, ◌++◌, Bool, length, map, refl, sym, ap, ◌∙◌, subst, arith, Result, Ok, Err}
use Rattle.std.specs.Prelude.{slice_index_or, OnErr}
use Rattle.std.specs.List.{range_with_len}
use Rattle.std.proofs.lemmas.List.FromFn.{length-map-range_with_len, get_or-map-range_with_len, map-range_with_len_more}
use Rattle.lf_core.specs.declared.marked.Move.{Move}
use Rattle.lf_core.specs.Marked.{Machine}
use Rattle.lf_core.specs.Written.{WrittenMachine, points_of, moves_at, written_row, written}
use Rattle.lf_written.specs.Cells.{moves_in, AreCells, HoldMoves, row_in, laid_out, AreLaid}

-- one element more
pub push_made : {X : Type 0} (f : ℕ → X) (xs : List X) (x : X) (k : ℕ) → xs ≡ map f (range_with_len 0 k) → x ≡ f k → xs ++ x ∷ [] ≡ map f (range_with_len 0 (k + 1))
push_made {X} f xs x k h e =
    ap (λ (ys : List X). ys ++ x ∷ []) h
    ∙ ap (λ (y : X). map f (range_with_len 0 k) ++ y ∷ []) e
    ∙ sym (map-range_with_len_more f 0 k k (omega arith))

map_from : {X : Type 0} (f g : ℕ → X) (a n : ℕ) → ((k : ℕ) → k < a + n → f k ≡ g k) → map f (range_with_len a n) ≡ map g (range_with_len a n)
map_from f g a zero h = refl
map_from {X} f g a (suc n) h =
    ap (λ (x : X). x ∷ map f (range_with_len (a + 1) n)) (h a (omega arith))
    ∙ ap (λ (xs : List X). g a ∷ xs) (map_from f g (a + 1) n (λ k lt. h k (omega (arith, lt))))

map_same : {X : Type 0} (f g : ℕ → X) (n : ℕ) → ((k : ℕ) → k < n → f k ≡ g k) → map f (range_with_len 0 n) ≡ map g (range_with_len 0 n)
map_same f g n h = map_from f g 0 n (λ k lt. h k (omega (arith, lt)))

row_same : (m : Machine) (starts : List ℕ) (moves : List Move) (point : ℕ) → point < m.count → HoldMoves m starts moves → row_in starts moves point ≡ written_row m point
unfolding written_row
row_same m starts moves point low held =
    map_same (λ byte. moves_in starts moves (point * 256 + byte)) (m.moves point) 256 (λ byte lt. held point byte low lt)

pub laid_is_written : (m : Machine) (points first : ℕ) (starts : List ℕ) (moves : List Move) (flags : List Bool) → points ≡ m.count → first ≡ m.first → HoldMoves m starts moves → flags ≡ map m.is_end (range_with_len 0 m.count) → laid_out points first starts moves flags ≡ written m
laid_is_written m points first starts moves flags many one are ends =
    let rows : map (row_in starts moves) (range_with_len 0 points) ≡ map (written_row m) (range_with_len 0 m.count) =
    ap (λ (k : ℕ). map (row_in starts moves) (range_with_len 0 k)) many
    ∙ map_same (row_in starts moves) (written_row m) m.count (λ point lt. row_same m starts moves point lt are) in
    ap (λ (k : ℕ). laid_out points k starts moves flags) one
    ∙ ap (λ (rs : List (List (List Move))). record { start = m.first; rows = rs; ends = flags }) rows
    ∙ ap (λ (fs : List Bool). record { start = m.first; rows = (written m).rows; ends = fs }) ends

pub cells_laid : (m : Machine) (points : ℕ) (starts : List ℕ) (moves : List Move) (flags : List Bool) → points ≡ m.count → AreCells starts moves (m.count * 256) → flags ≡ map m.is_end (range_with_len 0 m.count) → AreLaid points starts moves flags
cells_laid m points starts moves flags many are ends = record {
  cells = subst (λ (k : ℕ). AreCells starts moves (k * 256)) (sym many) are;
  each_point = ap (λ (fs : List Bool). length fs) ends ∙ length-map-range_with_len m.is_end 0 m.count ∙ sym many;
}

pub laid_points : (points first : ℕ) (starts : List ℕ) (moves : List Move) (flags : List Bool) → points_of (laid_out points first starts moves flags) ≡ points
laid_points points first starts moves flags = length-map-range_with_len (row_in starts moves) 0 points

-- a point of what is laid out
pub laid_below : (points first : ℕ) (starts : List ℕ) (moves : List Move) (flags : List Bool) (w : WrittenMachine) (point : ℕ) → laid_out points first starts moves flags ≡ w → point < points_of w → point < points
laid_below points first starts moves flags w point is low =
    let many : points_of w ≡ points = sym (ap (λ (v : WrittenMachine). points_of v) is) ∙ laid_points points first starts moves flags in
    omega (arith, many, low)

pub laid_moves : (points first : ℕ) (starts : List ℕ) (moves : List Move) (flags : List Bool) (point byte : ℕ) → point < points → byte < 256 → moves_at (laid_out points first starts moves flags) point byte ≡ moves_in starts moves (point * 256 + byte)
laid_moves points first starts moves flags point byte hp hb =
    ap (λ (row : List (List Move)). slice_index_or row byte []) (get_or-map-range_with_len (row_in starts moves) 0 points point point [] hp (omega arith))
    ∙ get_or-map-range_with_len (λ byte. moves_in starts moves (point * 256 + byte)) 0 256 byte byte [] hb (omega arith)

pub on_err : {X E P : Type 0} (r : Result X E) → P → OnErr r P
on_err (Ok x) p = tt
on_err (Err e) p = p
