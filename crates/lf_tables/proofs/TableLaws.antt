-- What was found is a table, and no more sets are reached.
use Rattle.std.proofs.Common.{◌≡◌, ℕ, ◌+◌, ◌*◌, ◌/◌, ◌%◌, ◌<◌, ◌≤◌, inl, inr, List, [], ◌∷◌, ◌++◌, length, map, get_or, sym, ap, ◌∙◌, subst, arith, append_assoc, true, false, Option}
use Rattle.std.specs.List.{Contains, range_with_len, list_any, IsDistinct}
use Rattle.std.proofs.lemmas.Bool.{cases_Bool, eqb-true}
use Rattle.std.proofs.lemmas.List.{append-nil}
use Rattle.std.proofs.lemmas.List.Elements.{All-head, All-tail}
use Rattle.std.proofs.lemmas.List.FromFn.{length-map-range_with_len, get_or-map-range_with_len}
use Rattle.std.proofs.lemmas.Map.Keys.{IsDistinct-from_apart}
use Rattle.std.proofs.lemmas.Map.Steps.{length-le_from_distinct_below}
use Rattle.std.proofs.lemmas.Map.Views.{Contains-from_any, exact_unsigned_eq}
use Rattle.std.proofs.lemmas.Nat.{div-mul-add, mod-mul-add}
use Rattle.std.proofs.Math.Dec.{eqb}
use Rattle.lf_core.specs.Marked.{Machine, IsMachine}
use Rattle.lf_tables.specs.declared.ways.Back.{Back}
use Rattle.lf_tables.specs.Reached.{AreBytes, ReachesMoreSets}
use Rattle.lf_tables.specs.Classes.{AreClasses}
use Rattle.lf_tables.specs.Tabled.{Cell, set_at, cell_at, cell_of, after, set_after, IsCell, IsEndOf, IsTabled}
use Rattle.lf_tables.specs.Found.{AreReached, AreFound}
use Rattle.lf_tables.proofs.Reach.{start_reached, lead_reached, reached_below}
use Rattle.lf_tables.proofs.CellLaws.{place_low, cell_leads, cell_alike}

-- a point of a set that was found
pub found_below : (m : Machine) (firsts : List ℕ) (sets : List (List ℕ)) (cells : List Cell) (backs : List Back) (s p : ℕ) → IsMachine m → AreFound m firsts sets cells backs → s < length sets → Contains (set_at sets s) p → p < m.count
found_below m firsts sets cells backs s p lawful found lt h =
    let (line, of_bytes, reached) = found.reached s lt in
    reached_below m line (set_at sets s) p lawful reached h

-- the cell of a set and a class
cell_led : (m : Machine) (firsts : List ℕ) (sets : List (List ℕ)) (cells : List Cell) (backs : List Back) (s c : ℕ) → AreFound m firsts sets cells backs → length cells ≡ length sets * length firsts → s < length sets → c < length firsts → IsCell m sets backs (set_at sets s) (get_or firsts c 0) (cell_at cells (s * length firsts + c))
cell_led m firsts sets cells backs s c found full ls lc =
    let at : ℕ = s * length firsts + c in
    let low : s * length firsts + c < length cells = omega (arith, full, place_low s c (length sets) (length firsts) ls lc) in
    let set : (s * length firsts + c) / length firsts ≡ s = div-mul-add s (length firsts) c lc in
    let class : (s * length firsts + c) % length firsts ≡ c = mod-mul-add s (length firsts) c lc in
    subst (λ (k : ℕ). IsCell m sets backs (set_at sets s) (get_or firsts k 0) (cell_at cells at)) class
    (subst (λ (k : ℕ). IsCell m sets backs (set_at sets k) (get_or firsts (at % length firsts) 0) (cell_at cells at)) set (found.led at low))

pub tabled : (m : Machine) (class_of firsts : List ℕ) (sets : List (List ℕ)) (cells : List Cell) (backs : List Back) (ends : List (Option ℕ)) → IsMachine m → AreClasses m class_of firsts 256 → AreFound m firsts sets cells backs → length cells ≡ length sets * length firsts → length ends ≡ length sets → ((s : ℕ) (e : Option ℕ) → s < length sets → e ≡ get_or ends s e → IsEndOf m (set_at sets s) e) → IsTabled m sets class_of (length firsts) cells backs ends
tabled m class_of firsts sets cells backs ends lawful classed found full each ended = record {
  some = found.some;
  begins = found.begins;
  bytes = classed.each;
  classed = classed.some;
  full = full;
  led = λ s b ls lb.
      cell_alike m sets backs (set_at sets s) b (get_or firsts (get_or class_of b 0) 0) (cell_of class_of (length firsts) cells s b) (classed.alike b lb)
      (λ p h. found_below m firsts sets cells backs s p lawful found ls h)
      (cell_led m firsts sets cells backs s (get_or class_of b 0) found full ls (classed.some b lb));
  each = each;
  ended = ended;
}

-- not more sets are reached than there are
module _ (m : Machine) (sets : List (List ℕ)) (class_of : List ℕ) (classes : ℕ) (cells : List Cell) (backs : List Back) (ends : List (Option ℕ)) (is : IsTabled m sets class_of classes cells backs ends) where
  abbrev next : ℕ → ℕ → ℕ
  next s b = (cell_of class_of classes cells s b).next

  set_reached : (line : List ℕ) (before : List ℕ) (s : ℕ) → s < length sets → AreBytes line → AreReached m before (set_at sets s) → (after next s line < length sets) × AreReached m (before ++ line) (set_at sets (after next s line))
  set_reached [] before s lt bytes are = (lt, subst (λ (xs : List ℕ). AreReached m xs (set_at sets s)) (sym (append-nil before)) are)
  set_reached (b ∷ line) before s lt bytes are =
      let one : IsCell m sets backs (set_at sets s) b (cell_of class_of classes cells s b) = is.led s b lt (All-head (λ x. x < 256) b line bytes) in
      let there : AreReached m (before ++ b ∷ []) (set_at sets (next s b)) = lead_reached m before (set_at sets s) (set_at sets (next s b)) b are (cell_leads m sets backs (set_at sets s) b (cell_of class_of classes cells s b) one) in
      let rest = set_reached line (before ++ b ∷ []) (next s b) one.next (All-tail (λ x. x < 256) b line bytes) there in
      (rest.0, subst (λ (xs : List ℕ). AreReached m xs (set_at sets (after next (next s b) line))) (append_assoc before (b ∷ []) line) rest.1)

  line_reached : (line : List ℕ) → AreBytes line → (set_after class_of classes cells line < length sets) × AreReached m line (set_at sets (set_after class_of classes cells line))
  line_reached line bytes = set_reached line [] 0 is.some bytes (subst (λ (ps : List ℕ). AreReached m [] ps) (sym is.begins) (start_reached m))

  module _ (many : ℕ) (more : ReachesMoreSets m many) where
    number : ℕ → ℕ
    number i = set_after class_of classes cells (more.line i)

    apart : (i j : ℕ) → i < j → j ≤ many → number i ≡ number j → ⊥
    unfolding number
    apart i j ij jn e =
        let left = (line_reached (more.line i) (more.bytes i (omega (arith, ij, jn)))).1 in
        let right = (line_reached (more.line j) (more.bytes j jn)).1 in
        let same : set_at sets (set_after class_of classes cells (more.line i)) ≡ set_at sets (set_after class_of classes cells (more.line j)) = ap (set_at sets) e in
        more.apart i j ij jn (λ p. (
          λ h. (right p).0 (subst (λ (ps : List ℕ). Contains ps p) same ((left p).1 h)),
          λ h. (left p).0 (subst (λ (ps : List ℕ). Contains ps p) (sym same) ((right p).1 h)),
        ))

    low : (i : ℕ) → i ≤ many → number i < length sets
    unfolding number
    low i le = (line_reached (more.line i) (more.bytes i le)).0

    numbers : List ℕ
    numbers = map number (range_with_len 0 (many + 1))

    how_many : length numbers ≡ many + 1
    unfolding numbers
    how_many = length-map-range_with_len number 0 (many + 1)

    at : (i d : ℕ) → i < many + 1 → get_or numbers i d ≡ number i
    unfolding numbers
    at i d lt = get_or-map-range_with_len number 0 (many + 1) i i d lt (omega arith)

    differ : (i j d : ℕ) → i < j → j < length numbers → eqb (get_or numbers i d) (get_or numbers j d) ≡ false
    differ i j d ij jn =
        let lj : j < many + 1 = omega (arith, jn, how_many) in
        elim (cases_Bool (eqb (get_or numbers i d) (get_or numbers j d))) [
          | inl t ↦ absurd (apart i j ij (omega (arith, lj)) (sym (at i d (omega (arith, ij, lj))) ∙ eqb-true (get_or numbers i d) (get_or numbers j d) t ∙ at j d lj))
          | inr f ↦ f
        ]

    distinct : IsDistinct eqb numbers
    distinct = IsDistinct-from_apart eqb numbers differ

    each_low : (q : ℕ) → list_any (eqb q) numbers ≡ true → q < length sets
    each_low q h =
        let (k, lt, e) = Contains-from_any {eq = eqb} exact_unsigned_eq q numbers h in
        let lk : k < many + 1 = omega (arith, lt, how_many) in
        omega (arith, low k (omega (arith, lk)), sym (at k q lk) ∙ e)

    pub no_more : length sets ≤ many → ⊥
    no_more le = absurd (omega (arith, length-le_from_distinct_below numbers (length sets) distinct each_low, how_many, le))
