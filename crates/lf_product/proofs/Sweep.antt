-- Steps of the loops over arrivals.
use mathlib.Core.Bool.{beq}
use Rattle.std.proofs.Common.{◌≡◌, ℕ, ◌+◌, ◌<◌, ◌≤◌, ◌⊎◌, Bool, true, false, not, eqb, inl, inr, List, [], length, get_or, take, drop, refl, sym, ap, ◌∙◌, subst, arith}
use Rattle.std.specs.Prelude.{Vec, slice_index_or}
use Rattle.std.specs.List.{Contains}
use Rattle.std.specs.declared.alloc.Global.{Global}
use Rattle.std.proofs.lemmas.Bool.{cases_eq}
use Rattle.std.proofs.lemmas.List.{take_more, take-append-drop, get_or-map, take_all, length-map}
use Rattle.std.proofs.lemmas.List.Elements.{Contains-push_cases, Contains-append_left}
use Rattle.lf_core.specs.declared.marked.Move.{Move}
use Rattle.lf_core.specs.Marked.{Machine}
use Rattle.lf_product.specs.declared.pair.SmallPair.{SmallPair}
use Rattle.lf_product.specs.declared.arrivals.Arrival.{Arrival}
use Rattle.lf_product.specs.Distance.{differed_by, Suffices}
use Rattle.lf_product.specs.ByteSet.{HasByte}
use Rattle.lf_product.specs.Cells.{steps_at}
use Rattle.lf_product.specs.Arcs.{seen, lists_of}
use Rattle.lf_product.specs.Level.{Grows, IsCovered, AreBefore, AreArrivals, StepBy, Tell, Follows}

pub contains_take : {X : Type 0} (xs : List X) (i : ℕ) (x : X) → Contains (take i xs) x → Contains xs x
contains_take xs i x h = subst (λ ys. Contains ys x) (take-append-drop i xs) (Contains-append_left (take i xs) (drop i xs) x h)

pub contains_take_more : {X : Type 0} (xs : List X) (i : ℕ) (d x : X) → i < length xs → Contains (take (i + 1) xs) x → Contains (take i xs) x ⊎ (get_or xs i d ≡ x)
contains_take_more xs i d x lt h = Contains-push_cases (take i xs) (get_or xs i d) x (subst (λ ys. Contains ys x) (take_more xs i d lt) h)

pub contains_none : {X : Type 0} (x : X) → Contains [] x → ⊥
contains_none x (k, lt, is) = absurd (omega (arith, lt))

pub list_at : (vs : List (Vec Arrival Global)) (i : ℕ) (v : Vec Arrival Global) → i < length vs → v ≡ get_or vs i v → get_or (lists_of vs) i [] ≡ v.items
list_at vs i v lt is = get_or-map (λ (w : Vec Arrival Global). w.items) vs i v [] lt ∙ ap (λ (w : Vec Arrival Global). w.items) (sym is)

pub covered_grows : (n none : ℕ) (ds es : List ℕ) (x y : Arrival) (p : SmallPair) → Grows n none ds es → x.from < n → y.from < n → IsCovered n none ds x y p → IsCovered n none es x y p
covered_grows n none ds es x y p g hx hy c b d lt h k e =
    let old : steps_at ds x.from y.from d < none = c b d lt h k e in
    let s = g.stays x.from y.from d hx hy old in omega (arith, s, old)

pub before_grows : (m : Machine) (none : ℕ) (ds es : List ℕ) (p : SmallPair) → Grows m.count none ds es → AreBefore m none ds p → AreBefore m none es p
before_grows m none ds es p g h a b d ha hb s =
    let old : steps_at ds a b d < none = h a b d ha hb s in
    let e = g.stays a b d ha hb old in omega (arith, e, old)

-- without marks the same differences are seen, where the points differ
same_difference : (marked d : Bool) (x y : Move) → (x.to ≡ y.to → marked ≡ true) → differed_by d (seen marked x) (seen marked y) ≡ differed_by d x y
same_difference true d x y one = refl
same_difference false d x y one =
    let apart : eqb x.to y.to ≡ false = elim (cases_eq x.to y.to) [ inl e ↦ absurd (let t : false ≡ true = one e in cc) | inr ne ↦ grind (arith, ne) ] in
    rw apart (grind arith)

-- so the lists tell the steps
pub tell : (m : Machine) (marked : Bool) (lists : List (List Arrival)) (p : SmallPair) → (p.left ≡ p.right → marked ≡ true) → AreArrivals m marked lists → Tell m lists p
tell m marked lists p one are = record {
  each_point = are.each_point;
  from_below = are.from_below;
  steps = λ x y hx hy b d low onx ony e.
      let (u, hu, eu) = are.leads p.left x hx b low onx in
      let (v, hv, ev) = are.leads p.right y hy b low ony in
      let lu : u.to ≡ p.left = ap (λ (z : Move). z.to) eu in
      let lv : v.to ≡ p.right = ap (λ (z : Move). z.to) ev in
      record {
        byte = b;
        left = u;
        right = v;
        on_left = hu;
        on_right = hv;
        left_to = lu;
        right_to = lv;
        value = sym (same_difference marked d u v (λ q. one (sym lu ∙ q ∙ lv))) ∙ ap (λ (z : Move). differed_by d z (seen marked v)) eu ∙ ap (λ (z : Move). differed_by d (record { mark = x.mark; to = p.left }) z) ev ∙ e;
      };
  all = λ none ds done a b d ha hb s.
      let (low, x) = are.all a s.byte s.left s.on_left in
      let (_, y) = are.all b s.byte s.right s.on_right in
      let hx : Contains (slice_index_or lists p.left []) x.by = subst (λ (t : ℕ). Contains (slice_index_or lists t []) x.by) s.left_to x.listed in
      let hy : Contains (slice_index_or lists p.right []) y.by = subst (λ (t : ℕ). Contains (slice_index_or lists t []) y.by) s.right_to y.listed in
      let same : differed_by d (seen marked s.left) (seen marked s.right) ≡ p.differed = same_difference marked d s.left s.right (λ q. one (sym s.left_to ∙ q ∙ s.right_to)) ∙ s.value in
      let e : differed_by d (record { mark = x.by.mark; to = p.left }) (record { mark = y.by.mark; to = p.right }) ≡ p.differed = rw (x.mark_is, y.mark_is, ← s.left_to, ← s.right_to) same in
      let found : steps_at ds x.by.from y.by.from d < none = done x.by y.by hx hy s.byte d low x.on y.on e in
      rw (← x.from_is, ← y.from_is) found;
}

pub differs : (t differed same : Bool) → t ≡ same → not (beq differed same) ≡ true → not t ≡ differed
differs t true true e h = absurd (cc)
differs t true false e h = ap not e
differs t false true e h = ap not e
differs t false false e h = absurd (cc)

-- what suffices after a step, suffices before it with the step
pub before_step : (m : Machine) (steps : ℕ) (x y : Arrival) (p : SmallPair) (d : Bool) → Follows m steps p → StepBy m x y p → (b : ℕ) × (b < 256) × HasByte x.bytes b × HasByte y.bytes b → differed_by d (record { mark = x.mark; to = p.left }) (record { mark = y.mark; to = p.right }) ≡ p.differed → Suffices m steps x.from y.from d
before_step m steps x y p d (k, is, way) step (b, low, hx, hy) e = rw is (p.left, p.right, p.differed, step b d low hx hy e, way)

pub list_bound : (m : Machine) (vs : List (Vec Arrival Global)) (i : ℕ) (p : SmallPair) → Tell m (lists_of vs) p → i < m.count → i < length vs
list_bound m vs i p are h = omega (arith, are.each_point, length-map vs (λ (w : Vec Arrival Global). w.items), h)

pub contains_whole : {X : Type 0} (xs : List X) (i : ℕ) (x : X) → length xs ≤ i → Contains xs x → Contains (take i xs) x
contains_whole xs i x le h = subst (λ ys. Contains ys x) (sym (take_all i xs le)) h
