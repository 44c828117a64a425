-- What the search has found, one cell more, and too many sets.
use Rattle.std.proofs.Common.{◌≡◌, ℕ, zero, suc, ◌+◌, ◌*◌, ◌/◌, ◌%◌, ◌<◌, ◌≤◌, ◌⊎◌, inl, inr, List, [], ◌∷◌, ◌++◌, length, get_or, refl, sym, ap, ◌∙◌, subst, arith, Option, None, Some}
use Rattle.std.specs.Prelude.{◌↔◌, MatchOption}
use Rattle.std.specs.List.{Contains}
use Rattle.std.proofs.lemmas.Bool.{cases_lt}
use Rattle.std.proofs.lemmas.List.{length-append, get_or_append_left, get_or_default}
use Rattle.std.proofs.lemmas.List.Elements.{All-push, All-nil}
use Rattle.std.proofs.lemmas.Nat.{mul-le}
use Rattle.std.proofs.Math.Nat.{div-lt_iff_lt-mul}
use Rattle.std.proofs.Math.Seq.{get_or-append_seam}
use Rattle.lf_core.specs.Marked.{Machine}
use Rattle.lf_tables.specs.declared.ways.Back.{Back}
use Rattle.lf_tables.specs.Reached.{AreBytes, ReachSameSet, ReachesMoreSets}
use Rattle.lf_tables.specs.Ways.{AreWays}
use Rattle.lf_tables.specs.Tabled.{Cell, set_at, cell_at, no_cell, HasWays, AreStored, IsCell}
use Rattle.lf_tables.specs.Found.{AreReached, AreRising, AreFound, HasNumber, HasNoRoom}
use Rattle.lf_tables.proofs.Reach.{start_reached, lead_reached}
use Rattle.lf_tables.proofs.WayLaws.{tos, tos_at, length_tos, ways_lead}
use Rattle.lf_tables.proofs.CellLaws.{new_cell, cell_like, cell_kept}

-- lists that stand in rising order, with the same points, are the same
tail_rising : (x : ℕ) (xs : List ℕ) → AreRising (x ∷ xs) → AreRising xs
tail_rising x xs up i j ij jn = up (suc i) (suc j) (omega (arith, ij)) (omega (arith, jn))

least : (x p : ℕ) (xs : List ℕ) → AreRising (x ∷ xs) → Contains xs p → x < p
least x p xs up (k, lt, e) =
    let less : x < get_or xs k 0 = up 0 (suc k) (omega arith) (omega (arith, lt)) in
    omega (arith, less, get_or_default xs k 0 p lt, e)

split : (x p : ℕ) (xs : List ℕ) → Contains (x ∷ xs) p → (x ≡ p) ⊎ Contains xs p
split x p xs (zero, lt, e) = inl e
split x p xs (suc k, lt, e) = inr (k, omega (arith, lt), e)

later : (x p : ℕ) (xs : List ℕ) → Contains xs p → Contains (x ∷ xs) p
later x p xs (k, lt, e) = (suc k, omega (arith, lt), e)

first : (x : ℕ) (xs : List ℕ) → Contains (x ∷ xs) x
first x xs = (0, omega arith, refl)

no_points : (p : ℕ) → Contains [] p → ⊥
no_points p (k, lt, e) = absurd (omega (arith, lt))

heads : (x y : ℕ) (xs ys : List ℕ) → AreRising (x ∷ xs) → AreRising (y ∷ ys) → Contains (y ∷ ys) x → Contains (x ∷ xs) y → x ≡ y
heads x y xs ys up up' hx hy = elim (split y x ys hx) [
  | inl e ↦ sym e
  | inr c ↦ elim (split x y xs hy) [
    | inl e ↦ e
    | inr d ↦ absurd (let a : y < x = least y x ys up' c in let b : x < y = least x y xs up d in omega arith)
  ]
]

narrow : (x y p : ℕ) (xs ys : List ℕ) → AreRising (x ∷ xs) → x ≡ y → (Contains (x ∷ xs) p → Contains (y ∷ ys) p) → Contains xs p → Contains ys p
narrow x y p xs ys up e all c = elim (split y p ys (all (later x p xs c))) [
  | inl same ↦ absurd (let a : x < p = least x p xs up c in omega (arith, e, same))
  | inr d ↦ d
]

pub same_points : (xs ys : List ℕ) → AreRising xs → AreRising ys → ((p : ℕ) → Contains xs p ↔ Contains ys p) → xs ≡ ys
same_points [] [] up up' all = refl
same_points [] (y ∷ ys) up up' all = absurd (no_points y ((all y).1 (first y ys)))
same_points (x ∷ xs) [] up up' all = absurd (no_points x ((all x).0 (first x xs)))
same_points (x ∷ xs) (y ∷ ys) up up' all =
    let e : x ≡ y = heads x y xs ys up up' ((all x).0 (first x xs)) ((all y).1 (first y ys)) in
    let rest : xs ≡ ys = same_points xs ys (tail_rising x xs up) (tail_rising y ys up') (λ p. (narrow x y p xs ys up e (all p).0, narrow y x p ys xs up' (sym e) (all p).1)) in
    ap (λ (z : ℕ). z ∷ xs) e ∙ ap (λ (zs : List ℕ). y ∷ zs) rest

pub tos_rising : (m : Machine) (points : List ℕ) (byte many : ℕ) (ways : List Back) → AreWays m points byte many ways → AreRising (tos ways)
tos_rising m points byte many ways are i j ij jn =
    let n : length (tos ways) ≡ length ways = length_tos ways in
    omega (arith, are.rising i j ij (omega (arith, jn, n)), tos_at ways i (omega (arith, ij, jn, n)), tos_at ways j (omega (arith, jn, n)))

-- the set of a cell
pub cell_set : (k classes sets : ℕ) → k < sets * classes → (0 < classes) × (k / classes < sets)
cell_set k classes sets lt = elim (cases_lt 0 classes) [
  | inl some ↦ (some, (div-lt_iff_lt-mul some).1 lt)
  | inr none ↦
      let e : classes ≡ 0 = omega (arith, none) in
      absurd (let h : k < sets * 0 = subst (λ (c : ℕ). k < sets * c) e lt in omega (arith, h))
]

module _ (m : Machine) (firsts : List ℕ) (sets : List (List ℕ)) (cells : List Cell) (backs ways : List Back) (found : AreFound m firsts sets cells backs) (bytes : (k : ℕ) → k < length firsts → get_or firsts k 0 < 256) (room : length cells < length sets * length firsts) where
  abbrev pub set : ℕ
  set = length cells / length firsts

  abbrev pub byte : ℕ
  byte = get_or firsts (length cells % length firsts) 0

  pub set_low : set < length sets
  set_low = (cell_set (length cells) (length firsts) (length sets) room).1

  pub byte_low : byte < 256
  byte_low =
      let some : 0 < length firsts = (cell_set (length cells) (length firsts) (length sets) room).0 in
      bytes (length cells % length firsts) (omega (arith, some))

  module _ (are : AreWays m (set_at sets set) byte (length (set_at sets set)) ways) where
    -- the bytes that reach the points to which the cell leads
    pub ways_reached : (line : List ℕ) × AreBytes line × AreReached m line (tos ways)
    ways_reached =
        let (line, of_bytes, reached) = found.reached set set_low in (
          line ++ byte ∷ [],
          All-push (λ b. b < 256) line byte of_bytes byte_low,
          lead_reached m line (set_at sets set) (tos ways) byte reached (ways_lead m (set_at sets set) byte ways are),
        )

    -- a cell once more, which has the ways back
    pub like_found : (k : ℕ) → k < length cells → HasWays sets backs (cell_at cells k) ways → AreFound m firsts sets (cells ++ cell_at cells k ∷ []) backs
    like_found k lt has =
        let like : Cell = cell_at cells k in
        let many : length (cells ++ like ∷ []) ≡ length cells + 1 = length-append cells (like ∷ []) in
        let here : IsCell m sets backs (set_at sets set) byte like = cell_like m sets backs ways (set_at sets (k / length firsts)) (set_at sets set) (get_or firsts (k % length firsts) 0) byte like (found.led k lt) has are in
        record {
          some = found.some;
          begins = found.begins;
          reached = found.reached;
          rising = found.rising;
          within = omega (arith, many, room);
          led = λ j low. elim (cases_lt j (length cells)) [
            | inl old ↦
                subst (λ (c : Cell). IsCell m sets backs (set_at sets (j / length firsts)) (get_or firsts (j % length firsts) 0) c) (sym (get_or_append_left cells (like ∷ []) no_cell j old)) (found.led j old)
            | inr ge ↦
                let e : length cells ≡ j = omega (arith, ge, low, many) in
                subst (λ (i : ℕ). IsCell m sets backs (set_at sets (i / length firsts)) (get_or firsts (i % length firsts) 0) (cell_at (cells ++ like ∷ []) i)) e
                (subst (λ (c : Cell). IsCell m sets backs (set_at sets set) byte c) (sym (get_or-append_seam cells like [] no_cell)) here)
          ];
        }

    module _ (new : List (List ℕ)) (n : ℕ) (number : HasNumber (tos ways) n sets new) where
      abbrev cell : Cell
      cell = record { next = n; start = length backs }

      kept_led : (k : ℕ) → k < length cells → IsCell m new (backs ++ ways) (set_at new (k / length firsts)) (get_or firsts (k % length firsts) 0) (cell_at (cells ++ cell ∷ []) k)
      kept_led k lt =
          let low : k / length firsts < length sets = (cell_set k (length firsts) (length sets) (omega (arith, lt, room))).1 in
          subst (λ (c : Cell). IsCell m new (backs ++ ways) (set_at new (k / length firsts)) (get_or firsts (k % length firsts) 0) c) (sym (get_or_append_left cells (cell ∷ []) no_cell k lt))
          (subst (λ (ps : List ℕ). IsCell m new (backs ++ ways) ps (get_or firsts (k % length firsts) 0) (cell_at cells k)) (sym (number.kept (k / length firsts) low))
          (cell_kept m sets new backs ways (set_at sets (k / length firsts)) (get_or firsts (k % length firsts) 0) (cell_at cells k) number.longer number.kept (found.led k lt)))

      new_led : (k : ℕ) → length cells ≡ k → IsCell m new (backs ++ ways) (set_at new (k / length firsts)) (get_or firsts (k % length firsts) 0) (cell_at (cells ++ cell ∷ []) k)
      new_led k e =
          subst (λ (j : ℕ). IsCell m new (backs ++ ways) (set_at new (j / length firsts)) (get_or firsts (j % length firsts) 0) (cell_at (cells ++ cell ∷ []) j)) e
          (subst (λ (c : Cell). IsCell m new (backs ++ ways) (set_at new set) byte c) (sym (get_or-append_seam cells cell [] no_cell))
          (subst (λ (ps : List ℕ). IsCell m new (backs ++ ways) ps byte cell) (sym (number.kept set set_low))
          (new_cell m new backs ways (set_at sets set) byte n are number.low number.is)))

      pub more_found : AreFound m firsts new (cells ++ cell ∷ []) (backs ++ ways)
      more_found =
          let many : length (cells ++ cell ∷ []) ≡ length cells + 1 = length-append cells (cell ∷ []) in
          record {
            some = omega (arith, found.some, number.longer);
            begins = number.kept 0 found.some ∙ found.begins;
            reached = λ s lt. elim (cases_lt s (length sets)) [
              | inl old ↦
                  let (line, of_bytes, reached) = found.reached s old in
                  (line, of_bytes, subst (λ (ps : List ℕ). AreReached m line ps) (sym (number.kept s old)) reached)
              | inr ge ↦
                  let (line, of_bytes, reached) = ways_reached in
                  (line, of_bytes, subst (λ (ps : List ℕ). AreReached m line ps) (sym (number.added s ge lt)) reached)
            ];
            rising = λ s lt. elim (cases_lt s (length sets)) [
              | inl old ↦ subst (λ (ps : List ℕ). AreRising ps) (sym (number.kept s old)) (found.rising s old)
              | inr ge ↦ subst (λ (ps : List ℕ). AreRising ps) (sym (number.added s ge lt)) (tos_rising m (set_at sets set) byte (length (set_at sets set)) ways are)
            ];
            within = omega (arith, many, room, mul-le (length sets) (length firsts) (length new) (length firsts) number.longer (omega arith));
            led = λ k lt. elim (cases_lt k (length cells)) [
              | inl old ↦ kept_led k old
              | inr ge ↦ new_led k (omega (arith, ge, lt, many))
            ];
          }

    -- a line for each set, and one for the set that has no room
    record IsPick (i : ℕ) (line points : List ℕ) : Type 0 where
      of_bytes : AreBytes line
      reached : AreReached m line points
      rising : AreRising points
      old : i < length sets → points ≡ set_at sets i
      last : length sets ≤ i → points ≡ tos ways

    pick : (i : ℕ) → (line : List ℕ) × (points : List ℕ) × IsPick i line points
    pick i = elim (cases_lt i (length sets)) [
      | inl lt ↦
          let (line, of_bytes, reached) = found.reached i lt in
          (line, set_at sets i, record { of_bytes = of_bytes; reached = reached; rising = found.rising i lt; old = λ _. refl; last = λ ge. absurd (omega (arith, lt, ge)) })
      | inr ge ↦
          let (line, of_bytes, reached) = ways_reached in
          (line, tos ways, record { of_bytes = of_bytes; reached = reached; rising = tos_rising m (set_at sets set) byte (length (set_at sets set)) ways are; old = λ lt. absurd (omega (arith, lt, ge)); last = λ _. refl })
    ]

    both : (left right : List ℕ) (xs ys : List ℕ) → ReachSameSet m left right → AreReached m left xs → AreReached m right ys → (p : ℕ) → Contains xs p ↔ Contains ys p
    both left right xs ys same rx ry p = (λ h. (ry p).1 ((same p).0 ((rx p).0 h)), λ h. (rx p).1 ((same p).1 ((ry p).0 h)))

    pub too_many : (many : ℕ) → length sets ≡ many → ((s t : ℕ) → s < t → t < length sets → set_at sets s ≡ set_at sets t → ⊥) → ((s : ℕ) → s < length sets → set_at sets s ≡ tos ways → ⊥) → ReachesMoreSets m many
    too_many many full apart other = record {
      line = λ i. (pick i).0;
      bytes = λ i le. (pick i).2.of_bytes;
      apart = λ i j ij jn same.
          let one : IsPick i (pick i).0 (pick i).1 = (pick i).2 in
          let two : IsPick j (pick j).0 (pick j).1 = (pick j).2 in
          let e : (pick i).1 ≡ (pick j).1 = same_points (pick i).1 (pick j).1 one.rising two.rising (both (pick i).0 (pick j).0 (pick i).1 (pick j).1 same one.reached two.reached) in
          let low : i < length sets = omega (arith, ij, jn, full) in
          elim (cases_lt j (length sets)) [
            | inl lt ↦ apart i j ij lt (sym (one.old low) ∙ e ∙ two.old lt)
            | inr ge ↦ other i low (sym (one.old low) ∙ e ∙ two.last ge)
          ];
    }

-- each cell that was found is stored
pub found_stored : (m : Machine) (firsts : List ℕ) (sets : List (List ℕ)) (cells : List Cell) (backs : List Back) → AreFound m firsts sets cells backs → AreStored sets cells backs
found_stored m firsts sets cells backs found k lt = ((found.led k lt).next, (found.led k lt).within)

-- the set of the start alone, and no cells
pub first_found : (m : Machine) (firsts : List ℕ) (n : ℕ) (sets : List (List ℕ)) → HasNumber (m.first ∷ []) n [] sets → AreFound m firsts sets [] []
first_found m firsts n sets number = record {
  some = omega (arith, number.low);
  begins = number.added 0 (omega arith) (omega (arith, number.low));
  reached = λ s lt. ([], All-nil (λ b. b < 256), subst (λ (ps : List ℕ). AreReached m [] ps) (sym (number.added s (omega arith) lt)) (start_reached m));
  rising = λ s lt. subst (λ (ps : List ℕ). AreRising ps) (sym (number.added s (omega arith) lt)) (λ i j ij jn. absurd (omega (arith, ij, jn)));
  within = omega arith;
  led = λ k lt. absurd (omega (arith, lt));
}

-- the first set has room
pub first_number : (points : List ℕ) (o : Option ℕ) (sets : List (List ℕ)) → MatchOption o (HasNoRoom points []) (λ n. HasNumber points n [] sets) → (n : ℕ) × HasNumber points n [] sets
first_number points None sets h = absurd (let full = h.full in omega (arith, full))
first_number points (Some n) sets h = (n, h)
