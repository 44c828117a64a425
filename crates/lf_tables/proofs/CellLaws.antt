-- Cells: where they lead, and that they stand where sets and ways back are added.
use Rattle.std.proofs.Common.{◌≡◌, ℕ, zero, suc, ◌+◌, ◌-◌, ◌<◌, ◌≤◌, List, ◌++◌, length, get_or, refl, sym, ap, ◌∙◌, subst, arith, Bool, true, false, not, [], ◌∷◌, ◌*◌}
use Rattle.std.proofs.lemmas.Nat.{mul-le}
use Rattle.std.specs.Prelude.{◌==◌, ◌&&◌, nat_eq}
use Rattle.std.specs.List.{Contains}
use Rattle.std.specs.Cmp.{IsEquivalence}
use Rattle.std.specs.Cmp.Lexicographic.{pointwise}
use Rattle.std.proofs.lemmas.Bool.{eqb-true, and_parts}
use Rattle.std.proofs.lemmas.Cmp.{nat_eq_equiv, on_equiv, and_equiv}
use Rattle.std.proofs.lemmas.List.{length-append, get_or_append_left, get_or-append_right, get_or_default}
use Rattle.std.proofs.lemmas.List.Elements.{Contains-get_or}
use Rattle.std.proofs.lemmas.Slice.Eq.{slice_eq-Decides}
use Rattle.std.proofs.lemmas.Map.Views.{Contains-from_any, list_any-from_Contains, exact_unsigned_eq}
use Rattle.lf_core.specs.declared.marked.Move.{Move}
use Rattle.lf_core.specs.Marked.{Machine, no_move}
use Rattle.lf_core.specs.RunLaws.{move_is}
use Rattle.lf_tables.specs.declared.ways.Back.{Back}
use Rattle.lf_tables.specs.Classes.{AreAlike}
use Rattle.lf_tables.specs.Ways.{no_back, back_at, AreWays}
use Rattle.lf_tables.specs.Tabled.{Cell, cells_of, cell_at, is_move, has_move, has_point, set_at, HasWays, IsWayBack, IsCell}
use Rattle.lf_tables.proofs.Reach.{LeadTo}
use Rattle.lf_tables.proofs.WayLaws.{tos, tos_at, length_tos, has_tos}

exact_move : (x y : Move) → is_move x y ≡ true → x ≡ y
exact_move x y h =
    let both = and_parts (x.mark == y.mark) (x.to == y.to) h in
    move_is x y (eqb-true x.mark y.mark both.0) (eqb-true x.to y.to both.1)

move_laws : IsEquivalence is_move
move_laws = and_equiv (on_equiv (λ (x : Move). x.mark) nat_eq_equiv) (on_equiv (λ (x : Move). x.to) nat_eq_equiv)

-- no move tells the lists apart
pub same_moves : (xs ys : List Move) (same : Bool) → same ≡ pointwise is_move xs ys → same ≡ true → xs ≡ ys
same_moves xs ys same is t = (slice_eq-Decides {E = is_move} (λ a b. (exact_move a b, λ e. subst (λ (y : Move). is_move a y ≡ true) e (move_laws.refl a))) xs ys (pointwise is_move xs ys) refl).0 (sym is ∙ t)

-- the test of two ways back
abbrev pub is_back : Back → Back → Bool
is_back x y = (x.before == y.before) && is_move x.step y.step

pub same_back : (x y : Back) (differ : Bool) → differ ≡ not (is_back x y) → differ ≡ false → x ≡ y
same_back x y differ is f =
    let both = and_parts (x.before == y.before) (is_move x.step y.step) (not_false (is_back x y) (sym is ∙ f)) in
    ap (λ (k : ℕ). record { before = k; step = x.step }) (eqb-true x.before y.before both.0)
    ∙ ap (λ (z : Move). record { before = y.before; step = z }) (exact_move x.step y.step both.1)
  where
    not_false : (b : Bool) → not b ≡ false → b ≡ true
    not_false true h = refl
    not_false false h = cc

pub has_move_from : (moves : List Move) (x : Move) → Contains moves x → has_move moves x ≡ true
has_move_from moves x h = list_any-from_Contains {eq = is_move} move_laws x moves h

pub has_move_to : (moves : List Move) (x : Move) → has_move moves x ≡ true → Contains moves x
has_move_to moves x h = Contains-from_any {eq = is_move} exact_move x moves h

pub has_point_from : (points : List ℕ) (p : ℕ) → Contains points p → has_point points p ≡ true
has_point_from points p h = list_any-from_Contains {eq = nat_eq} nat_eq_equiv p points h

pub has_point_to : (points : List ℕ) (p : ℕ) → has_point points p ≡ true → Contains points p
has_point_to points p h = Contains-from_any {eq = nat_eq} exact_unsigned_eq p points h

-- a way back behind others
behind : (old ways : List Back) (k : ℕ) → k < length ways → back_at (old ++ ways) (length old + k) ≡ back_at ways k
behind old ways k lt =
    let e : length old + k - length old ≡ k = omega arith in
    get_or-append_right old ways (length old) (length old + k) no_back refl (omega arith) ∙ ap (back_at ways) e

-- the cell of what was just found
pub new_cell : (m : Machine) (sets : List (List ℕ)) (old ways : List Back) (points : List ℕ) (byte n : ℕ) → AreWays m points byte (length points) ways → n < length sets → set_at sets n ≡ tos ways → IsCell m sets (old ++ ways) points byte (record { next = n; start = length old })
new_cell m sets old ways points byte n are lt e =
    let many : length (set_at sets n) ≡ length ways = ap (λ (xs : List ℕ). length xs) e ∙ length_tos ways in
    record {
      next = lt;
      within = omega (arith, many, length-append old ways);
      ways = λ k low.
          let in_ways : k < length ways = omega (arith, low, many) in
          let led = are.led (back_at ways k) (Contains-get_or ways k no_back in_ways) in
          subst (λ (x : Back). IsWayBack m points byte x) (sym (behind old ways k in_ways))
          (record { place = led.0; by = has_move_from (m.moves (get_or points (back_at ways k).before 0) byte) (back_at ways k).step led.1 });
      from = λ k low.
          let in_ways : k < length ways = omega (arith, low, many) in
          ap (λ (x : Back). x.step.to) (behind old ways k in_ways) ∙ sym (tos_at ways k in_ways) ∙ ap (λ (xs : List ℕ). get_or xs k 0) (sym e);
      all = λ k i low within.
          let x : Move = get_or (m.moves (get_or points k 0) byte) i no_move in
          subst (λ (xs : List ℕ). has_point xs (get_or (m.moves (get_or points k 0) byte) i no_move).to ≡ true) (sym e)
          (has_point_from (tos ways) x.to (has_tos ways x.to (are.all k x low (Contains-get_or (m.moves (get_or points k 0) byte) i no_move within))));
    }

-- a cell with the ways back of another set and byte
pub cell_like : (m : Machine) (sets : List (List ℕ)) (backs ways : List Back) (others points : List ℕ) (b byte : ℕ) (cell : Cell) → IsCell m sets backs others b cell → HasWays sets backs cell ways → AreWays m points byte (length points) ways → IsCell m sets backs points byte cell
cell_like m sets backs ways others points b byte cell is has are =
    let same = λ (k : ℕ) (low : k < length (set_at sets cell.next)). has.same k (omega (arith, low, has.each)) in
    record {
      next = is.next;
      within = is.within;
      ways = λ k low.
          let led = are.led (back_at ways k) (Contains-get_or ways k no_back (omega (arith, low, has.each))) in
          subst (λ (x : Back). IsWayBack m points byte x) (sym (same k low))
          (record { place = led.0; by = has_move_from (m.moves (get_or points (back_at ways k).before 0) byte) (back_at ways k).step led.1 });
      from = is.from;
      all = λ k i low within.
          let x : Move = get_or (m.moves (get_or points k 0) byte) i no_move in
          let (w, (j, lt, e), to) = are.all k x low (Contains-get_or (m.moves (get_or points k 0) byte) i no_move within) in
          let here : j < length (set_at sets cell.next) = omega (arith, lt, has.each) in
          let at : get_or (set_at sets cell.next) j x.to ≡ x.to =
          get_or_default (set_at sets cell.next) j x.to 0 here ∙ sym (is.from j here) ∙ ap (λ (y : Back). y.step.to) (same j here ∙ get_or_default ways j no_back w lt ∙ e) ∙ to in
          has_point_from (set_at sets cell.next) x.to (j, here, at);
    }

pub cell_kept : (m : Machine) (sets new : List (List ℕ)) (backs more : List Back) (points : List ℕ) (byte : ℕ) (cell : Cell) → length sets ≤ length new → ((s : ℕ) → s < length sets → set_at new s ≡ set_at sets s) → IsCell m sets backs points byte cell → IsCell m new (backs ++ more) points byte cell
cell_kept m sets new backs more points byte cell longer kept is =
    let e : set_at new cell.next ≡ set_at sets cell.next = kept cell.next is.next in
    let many : length (set_at new cell.next) ≡ length (set_at sets cell.next) = ap (λ (xs : List ℕ). length xs) e in
    let stays = λ (k : ℕ) (low : k < length (set_at new cell.next)).
    let at : back_at (backs ++ more) (cell.start + k) ≡ back_at backs (cell.start + k) = get_or_append_left backs more no_back (cell.start + k) (omega (arith, low, many, is.within)) in
    at
    in
    record {
      next = omega (arith, longer, is.next);
      within = omega (arith, many, is.within, length-append backs more);
      ways = λ k low. subst (λ (x : Back). IsWayBack m points byte x) (sym (stays k low)) (is.ways k (omega (arith, low, many)));
      from = λ k low. ap (λ (x : Back). x.step.to) (stays k low) ∙ is.from k (omega (arith, low, many)) ∙ ap (λ (xs : List ℕ). get_or xs k 0) (sym e);
      all = λ k i low within. subst (λ (xs : List ℕ). has_point xs (get_or (m.moves (get_or points k 0) byte) i no_move).to ≡ true) (sym e) (is.all k i low within);
    }

-- the cell leads to just the points of its set
pub cell_leads : (m : Machine) (sets : List (List ℕ)) (backs : List Back) (points : List ℕ) (byte : ℕ) (cell : Cell) → IsCell m sets backs points byte cell → LeadTo m points byte (set_at sets cell.next)
cell_leads m sets backs points byte cell is = record {
  led = λ p h.
      let (k, lt, e) = h in
      let way : IsWayBack m points byte (back_at backs (cell.start + k)) = is.ways k lt in
      let x : Back = back_at backs (cell.start + k) in (
        get_or points x.before 0,
        Contains-get_or points x.before 0 way.place,
        x.step,
        has_move_to (m.moves (get_or points x.before 0) byte) x.step way.by,
        is.from k lt ∙ get_or_default (set_at sets cell.next) k 0 p lt ∙ e,
      );
  all = λ q x h c.
      let (k, lt, e) = h in
      let (i, low, same) = c in
      let here : get_or points k 0 ≡ q = get_or_default points k 0 q lt ∙ e in
      let moves : m.moves (get_or points k 0) byte ≡ m.moves q byte = ap (λ (r : ℕ). m.moves r byte) here in
      let within : i < length (m.moves (get_or points k 0) byte) = subst (λ (xs : List Move). i < length xs) (sym moves) low in
      let move : get_or (m.moves (get_or points k 0) byte) i no_move ≡ x =
      ap (λ (xs : List Move). get_or xs i no_move) moves ∙ get_or_default (m.moves q byte) i no_move x low ∙ same in
      has_point_to (set_at sets cell.next) x.to (subst (λ (y : Move). has_point (set_at sets cell.next) y.to ≡ true) move (is.all k i lt within));
}

-- a cell is that of each byte that no move tells from its own
pub cell_alike : (m : Machine) (sets : List (List ℕ)) (backs : List Back) (points : List ℕ) (b r : ℕ) (cell : Cell) → AreAlike m m.count b r → ((p : ℕ) → Contains points p → p < m.count) → IsCell m sets backs points r cell → IsCell m sets backs points b cell
cell_alike m sets backs points b r cell alike low is =
    let same = λ (k : ℕ) (lt : k < length points).
    let e : m.moves (get_or points k 0) r ≡ m.moves (get_or points k 0) b = sym (alike (get_or points k 0) (low (get_or points k 0) (Contains-get_or points k 0 lt))) in
    e
    in
    record {
      next = is.next;
      within = is.within;
      ways = λ k lt.
          let way : IsWayBack m points r (back_at backs (cell.start + k)) = is.ways k lt in
          record {
            place = way.place;
            by = subst (λ (xs : List Move). has_move xs (back_at backs (cell.start + k)).step ≡ true) (same (back_at backs (cell.start + k)).before way.place) way.by;
          };
      from = is.from;
      all = λ k i lt within.
          subst (λ (xs : List Move). i < length xs → has_point (set_at sets cell.next) (get_or xs i no_move).to ≡ true) (same k lt) (is.all k i lt) within;
    }

-- the cells of two lists of one length
pub length_cells : (nexts starts : List ℕ) → length nexts ≡ length starts → length (cells_of nexts starts) ≡ length nexts
length_cells [] starts e = refl
length_cells (n ∷ nexts) [] e = absurd (omega (arith, e))
length_cells (n ∷ nexts) (s ∷ starts) e = ap suc (length_cells nexts starts (omega (arith, e)))

pub push_cells : (nexts starts : List ℕ) (n s : ℕ) → length nexts ≡ length starts → cells_of (nexts ++ n ∷ []) (starts ++ s ∷ []) ≡ cells_of nexts starts ++ record { next = n; start = s } ∷ []
push_cells [] [] n s e = refl
push_cells [] (t ∷ starts) n s e = absurd (omega (arith, e))
push_cells (m ∷ nexts) [] n s e = absurd (omega (arith, e))
push_cells (m ∷ nexts) (t ∷ starts) n s e = ap (λ (cs : List Cell). record { next = m; start = t } ∷ cs) (push_cells nexts starts n s (omega (arith, e)))

pub next_at : (nexts starts : List ℕ) (k : ℕ) → length nexts ≡ length starts → (cell_at (cells_of nexts starts) k).next ≡ get_or nexts k 0
next_at [] starts k e = refl
next_at (n ∷ nexts) [] k e = absurd (omega (arith, e))
next_at (n ∷ nexts) (s ∷ starts) zero e = refl
next_at (n ∷ nexts) (s ∷ starts) (suc k) e = next_at nexts starts k (omega (arith, e))

pub start_at : (nexts starts : List ℕ) (k : ℕ) → length nexts ≡ length starts → (cell_at (cells_of nexts starts) k).start ≡ get_or starts k 0
start_at [] [] k e = refl
start_at [] (s ∷ starts) k e = absurd (omega (arith, e))
start_at (n ∷ nexts) [] k e = absurd (omega (arith, e))
start_at (n ∷ nexts) (s ∷ starts) zero e = refl
start_at (n ∷ nexts) (s ∷ starts) (suc k) e = start_at nexts starts k (omega (arith, e))

-- the place of a set and a class is below those of the next set
pub place_low : (s c sets classes : ℕ) → s < sets → c < classes → s * classes + c < sets * classes
place_low s c sets classes ls lc = omega (arith, lc, mul-le (s + 1) classes sets classes (omega (arith, ls)) (omega arith))
