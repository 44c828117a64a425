-- Cells that a loop adds, and those that are read.
use Rattle.std.proofs.Common.{◌≡◌, ℕ, ◌+◌, ◌-◌, ◌*◌, ◌/◌, ◌%◌, ◌<◌, ◌≤◌, inl, inr, List, [], ◌∷◌, ◌++◌, length, take, drop, refl, sym, ap, ◌∙◌, subst, arith}
use Rattle.std.specs.Prelude.{slice_range}
use Rattle.std.proofs.lemmas.Bool.{cases_lt}
use Rattle.std.proofs.lemmas.List.{length-append, get_or_append_left, drop-append-le, take-append-le, length-drop, take_all}
use Rattle.std.proofs.Math.Seq.{get_or-append_seam, drop-append_seam}
use Rattle.std.proofs.lemmas.Nat.{div-mul-add, mod-mul-add}
use Rattle.lf_core.specs.declared.marked.Move.{Move}
use Rattle.lf_core.specs.Marked.{Machine}
use Rattle.lf_written.specs.Cells.{start_of, moves_in, AreCells, HoldMoves}

-- The cell's moves stand in the list, and are the machine's from its point on its byte.
pub record IsCell (machine : Machine) (starts : List ℕ) (moves : List Move) (cell : ℕ) : Type 0 where
  pub ordered : start_of starts cell ≤ start_of starts (cell + 1)
  pub within : start_of starts (cell + 1) ≤ length moves
  pub same : moves_in starts moves cell ≡ machine.moves (cell / 256) (cell % 256)

-- The first cells, so many, are the machine's, and the next one would start at the list's end.
pub record AreFirst (machine : Machine) (starts : List ℕ) (moves : List Move) (many : ℕ) : Type 0 where
  pub each : length starts ≡ many + 1
  pub next : start_of starts many ≡ length moves
  pub cells : (cell : ℕ) → cell < many → IsCell machine starts moves cell

-- a part of a list is the same part of a longer one
range_kept : (xs ys : List Move) (from to : ℕ) → from ≤ to → to ≤ length xs → slice_range (xs ++ ys) from to ≡ slice_range xs from to
range_kept xs ys from to ordered within =
    ap (λ (zs : List Move). take (to - from) zs) (drop-append-le from xs ys (omega (arith, ordered, within)))
    ∙ take-append-le (to - from) (drop from xs) ys (omega (arith, ordered, within, length-drop from xs))

-- the part that was added
range_added : (xs ys : List Move) (to : ℕ) → to ≡ length (xs ++ ys) → slice_range (xs ++ ys) (length xs) to ≡ ys
range_added xs ys to e =
    ap (λ (zs : List Move). take (to - length xs) zs) (drop-append_seam xs ys)
    ∙ take_all (to - length xs) ys (omega (arith, e, length-append xs ys))

start_kept : (starts : List ℕ) (next cell : ℕ) → cell < length starts → start_of (starts ++ next ∷ []) cell ≡ start_of starts cell
start_kept starts next cell h = get_or_append_left starts (next ∷ []) 0 cell h

start_added : (starts : List ℕ) (next many : ℕ) → length starts ≡ many → start_of (starts ++ next ∷ []) many ≡ next
start_added starts next many e = subst (λ (k : ℕ). start_of (starts ++ next ∷ []) k ≡ next) e (get_or-append_seam starts next [] 0)

cell_kept : (m : Machine) (starts : List ℕ) (xs ys : List Move) (next cell : ℕ) → cell + 1 < length starts → IsCell m starts xs cell → IsCell m (starts ++ next ∷ []) (xs ++ ys) cell
cell_kept m starts xs ys next cell h is =
    let first : start_of (starts ++ next ∷ []) cell ≡ start_of starts cell = start_kept starts next cell (omega (arith, h)) in
    let second : start_of (starts ++ next ∷ []) (cell + 1) ≡ start_of starts (cell + 1) = start_kept starts next (cell + 1) h in
    record {
      ordered = omega (arith, first, second, is.ordered);
      within = omega (arith, second, is.within, length-append xs ys);
      same =
          ap (λ (k : ℕ). slice_range (xs ++ ys) k (start_of (starts ++ next ∷ []) (cell + 1))) first
          ∙ ap (λ (k : ℕ). slice_range (xs ++ ys) (start_of starts cell) k) second
          ∙ range_kept xs ys (start_of starts cell) (start_of starts (cell + 1)) is.ordered is.within
          ∙ is.same;
    }

cell_added : (m : Machine) (starts : List ℕ) (xs ys : List Move) (next cell : ℕ) → length starts ≡ cell + 1 → start_of starts cell ≡ length xs → next ≡ length (xs ++ ys) → ys ≡ m.moves (cell / 256) (cell % 256) → IsCell m (starts ++ next ∷ []) (xs ++ ys) cell
cell_added m starts xs ys next cell n last e is =
    let first : start_of (starts ++ next ∷ []) cell ≡ length xs = start_kept starts next cell (omega (arith, n)) ∙ last in
    let second : start_of (starts ++ next ∷ []) (cell + 1) ≡ next = start_added starts next (cell + 1) n in
    record {
      ordered = omega (arith, first, second, e, length-append xs ys);
      within = omega (arith, second, e);
      same =
          ap (λ (k : ℕ). slice_range (xs ++ ys) k (start_of (starts ++ next ∷ []) (cell + 1))) first
          ∙ ap (λ (k : ℕ). slice_range (xs ++ ys) (length xs) k) second
          ∙ range_added xs ys next e
          ∙ is;
    }

-- one cell more
pub more_cells : (m : Machine) (starts : List ℕ) (xs ys : List Move) (next many : ℕ) → AreFirst m starts xs many → next ≡ length (xs ++ ys) → ys ≡ m.moves (many / 256) (many % 256) → AreFirst m (starts ++ next ∷ []) (xs ++ ys) (many + 1)
more_cells m starts xs ys next many are e is = record {
  each = omega (arith, are.each, length-append starts (next ∷ []));
  next = start_added starts next (many + 1) are.each ∙ e;
  cells = λ cell h. elim (cases_lt cell many) [
    | inl lt ↦ cell_kept m starts xs ys next cell (omega (arith, lt, are.each)) (are.cells cell lt)
    | inr ge ↦
        let q : many ≡ cell = omega (arith, ge, h) in
        subst (λ (k : ℕ). IsCell m (starts ++ next ∷ []) (xs ++ ys) k) q (cell_added m starts xs ys next many are.each are.next e is)
  ];
}

-- the cells of all points
pub cells_are : (m : Machine) (starts : List ℕ) (moves : List Move) (many : ℕ) → AreFirst m starts moves many → AreCells starts moves many
cells_are m starts moves many are = record {
  each = are.each;
  ordered = λ cell h. (are.cells cell h).ordered;
  within = λ cell h. (are.cells cell h).within;
}

pub moves_held : (m : Machine) (starts : List ℕ) (moves : List Move) → AreFirst m starts moves (m.count * 256) → HoldMoves m starts moves
moves_held m starts moves are point byte low h =
    (are.cells (point * 256 + byte) (omega (arith, low, h))).same
    ∙ ap (λ (k : ℕ). m.moves k ((point * 256 + byte) % 256)) (div-mul-add point 256 byte h)
    ∙ ap (λ (k : ℕ). m.moves point k) (mod-mul-add point 256 byte h)

-- the same, of lists that were pushed to
pub add_cells : (m : Machine) (starts starts' : List ℕ) (xs xs' : List Move) (many : ℕ) → AreFirst m starts xs many → xs' ≡ xs ++ m.moves (many / 256) (many % 256) → starts' ≡ starts ++ length xs' ∷ [] → AreFirst m starts' xs' (many + 1)
add_cells m starts starts' xs xs' many are moves_is starts_is =
    let grown : AreFirst m (starts ++ length xs' ∷ []) (xs ++ m.moves (many / 256) (many % 256)) (many + 1) =
    more_cells m starts xs (m.moves (many / 256) (many % 256)) (length xs') many are (ap (λ (zs : List Move). length zs) moves_is) refl in
    subst (λ (zs : List Move). AreFirst m starts' zs (many + 1)) (sym moves_is)
    (subst (λ (ss : List ℕ). AreFirst m ss (xs ++ m.moves (many / 256) (many % 256)) (many + 1)) (sym starts_is) grown)
