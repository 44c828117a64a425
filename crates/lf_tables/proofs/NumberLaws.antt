-- Sets that are numbered as they are found.
use Rattle.std.proofs.Common.{◌≡◌, ℕ, ◌+◌, ◌<◌, ◌≤◌, inl, inr, List, [], ◌∷◌, ◌++◌, length, get_or, refl, sym, ap, ◌∙◌, subst, arith, Option, Some, None, Bool, true, false, cond, Vec, Global, map}
use Rattle.std.specs.Prelude.{IfSome}
use Rattle.std.specs.BTreeMap as tree
use Rattle.std.specs.BTreeMap.{BTreeMap}
use Rattle.std.specs.Cmp.Lexicographic.{slice_cmp}
use Rattle.std.specs.Ordering.{nat_cmp, is_eq}
use Rattle.std.proofs.lemmas.Bool.{cases_lt, cases_Bool}
use Rattle.std.proofs.lemmas.Cmp.{nat_list_cmp_total, tied_itself}
use Rattle.std.proofs.lemmas.List.{length-append, get_or_append_left, map-append, length-map, get_or-map}
use Rattle.std.proofs.Math.Seq.{get_or-append_seam}
use Rattle.std.proofs.lemmas.Map.Lookups.{exact_bytes}
use Rattle.std.proofs.lemmas.Map.Views.{tells_apart}
use Rattle.lf_limits.specs.Limits.{most_sets}
use Rattle.lf_tables.specs.Tabled.{set_at}
use Rattle.lf_tables.specs.Found.{AreNumbered, HasNumber, HasNoRoom}

set_kept : (sets : List (List ℕ)) (points : List ℕ) (s : ℕ) → s < length sets → set_at (sets ++ points ∷ []) s ≡ set_at sets s
set_kept sets points s lt = get_or_append_left sets (points ∷ []) [] s lt

set_added : (sets : List (List ℕ)) (points : List ℕ) (s : ℕ) → s ≡ length sets → set_at (sets ++ points ∷ []) s ≡ points
set_added sets points s e = ap (set_at (sets ++ points ∷ [])) e ∙ get_or-append_seam sets points [] []

-- the new set has the next number
pub has_next : (points : List ℕ) (sets : List (List ℕ)) → HasNumber points (length sets) sets (sets ++ points ∷ [])
has_next points sets =
    let n : length (sets ++ points ∷ []) ≡ length sets + 1 = length-append sets (points ∷ []) in
    record {
      low = omega (arith, n);
      is = set_added sets points (length sets) refl;
      longer = omega (arith, n);
      kept = set_kept sets points;
      added = λ s ge lt. set_added sets points s (omega (arith, n, ge, lt));
    }

module _ {K : Type 0} (items : K → List ℕ) (numbers : BTreeMap K ℕ) (sets : List (List ℕ)) where
  abbrev number : BTreeMap K ℕ → K → Option ℕ
  number ns q = tree.get (λ x y. slice_cmp nat_cmp (items x) (items y)) ns q

  some_found : (o : Option ℕ) (n : ℕ) (P : ℕ → Type 0) → IfSome o P → o ≡ Some n → P n
  some_found o n P h e = subst (λ (v : Option ℕ). IfSome v P) e h

  pub known : (q : K) (n : ℕ) → AreNumbered items numbers sets → number numbers q ≡ Some n → HasNumber (items q) n sets sets
  known q n are e =
      let both : (n < length sets) × (set_at sets n ≡ items q) = some_found (number numbers q) n (λ k. (k < length sets) × (set_at sets k ≡ items q)) (are.found q) e in
      record {
        low = both.0;
        is = both.1;
        longer = omega arith;
        kept = λ s lt. refl;
        added = λ s ge lt. absurd (omega (arith, ge, lt));
      }

  other : (q : K) (s : ℕ) → AreNumbered items numbers sets → number numbers q ≡ None → s < length sets → set_at sets s ≡ items q → ⊥
  other q s are none lt e = let (n, some) = are.each q s lt e in absurd (none_some n (sym none ∙ some))
    where
      none_some : (n : ℕ) → None ≡ Some n → ⊥
      none_some n h = cc

  pub no_room : (q : K) → AreNumbered items numbers sets → number numbers q ≡ None → most_sets ≤ length sets → HasNoRoom (items q) sets
  no_room q are none ge = record {
    full = let few : length sets ≤ most_sets = are.few in omega (arith, few, ge);
    other = λ s lt e. other q s are none lt e;
  }

  module _ (new : BTreeMap K ℕ) (q : K) (are : AreNumbered items numbers sets) (none : number numbers q ≡ None) (room : length sets < most_sets) (updates : (r : K) → number new r ≡ cond (is_eq (slice_cmp nat_cmp (items q) (items r))) (Some (length sets)) (number numbers r)) where
    more : length (sets ++ items q ∷ []) ≡ length sets + 1
    more = length-append sets (items q ∷ [])

    hit : (r : K) → is_eq (slice_cmp nat_cmp (items q) (items r)) ≡ true → number new r ≡ Some (length sets)
    hit r t = updates r ∙ ap (λ (b : Bool). cond b (Some (length sets)) (number numbers r)) t

    miss : (r : K) → is_eq (slice_cmp nat_cmp (items q) (items r)) ≡ false → number new r ≡ number numbers r
    miss r f = updates r ∙ ap (λ (b : Bool). cond b (Some (length sets)) (number numbers r)) f

    abbrev IsIn : K → ℕ → Type 0
    IsIn r n = (n < length (sets ++ items q ∷ [])) × (set_at (sets ++ items q ∷ []) n ≡ items r)

    wider : (r : K) (o : Option ℕ) → IfSome o (λ n. (n < length sets) × (set_at sets n ≡ items r)) → IfSome o (IsIn r)
    wider r None h = tt
    wider r (Some n) h = (omega (arith, h.0, more), set_kept sets (items q) n h.0 ∙ h.1)

    finds : (r : K) → IfSome (number new r) (IsIn r)
    finds r = elim (cases_Bool (is_eq (slice_cmp nat_cmp (items q) (items r)))) [
      | inl t ↦
          let same : items q ≡ items r = tells_apart exact_bytes (items q) (items r) t in
          subst (λ (o : Option ℕ). IfSome o (IsIn r)) (sym (hit r t)) (omega (arith, more), set_added sets (items q) (length sets) refl ∙ same)
      | inr f ↦ subst (λ (o : Option ℕ). IfSome o (IsIn r)) (sym (miss r f)) (wider r (number numbers r) (are.found r))
    ]

    has_each : (r : K) (s : ℕ) → s < length (sets ++ items q ∷ []) → set_at (sets ++ items q ∷ []) s ≡ items r → (n : ℕ) × (number new r ≡ Some n)
    has_each r s lt e = elim (cases_Bool (is_eq (slice_cmp nat_cmp (items q) (items r)))) [
      | inl t ↦ (length sets, hit r t)
      | inr f ↦ elim (cases_lt s (length sets)) [
        | inl old ↦ let (n, some) = are.each r s old (sym (set_kept sets (items q) s old) ∙ e) in (n, miss r f ∙ some)
        | inr ge ↦
            let same : items q ≡ items r = sym (set_added sets (items q) s (omega (arith, ge, lt, more))) ∙ e in
            let tied : is_eq (slice_cmp nat_cmp (items q) (items r)) ≡ true =
            subst (λ (xs : List ℕ). is_eq (slice_cmp nat_cmp (items q) xs) ≡ true) same (ap is_eq (tied_itself nat_list_cmp_total (items q))) in
            (length sets, hit r tied)
      ]
    ]

    pub added : AreNumbered items new (sets ++ items q ∷ [])
    added = record {
      few = omega (arith, more, room);
      found = finds;
      each = has_each;
      apart = λ s t st lt e. elim (cases_lt t (length sets)) [
        | inl old ↦ are.apart s t st old (sym (set_kept sets (items q) s (omega (arith, st, old))) ∙ e ∙ set_kept sets (items q) t old)
        | inr ge ↦
            let low : s < length sets = omega (arith, st, lt, more) in
            other q s are none low (sym (set_kept sets (items q) s low) ∙ e ∙ set_added sets (items q) t (omega (arith, ge, lt, more)))
      ];
    }

-- the points of each list
abbrev pub lists_of : List (Vec ℕ Global) → List (List ℕ)
lists_of lists = map (λ v. v.items) lists

pub push_lists : (old new : List (Vec ℕ Global)) (v points : Vec ℕ Global) → new ≡ old ++ v ∷ [] → v.items ≡ points.items → lists_of new ≡ lists_of old ++ points.items ∷ []
push_lists old new v points e same =
    ap (λ (xs : List (Vec ℕ Global)). lists_of xs) e
    ∙ map-append (λ (w : Vec ℕ Global). w.items) old (v ∷ [])
    ∙ ap (λ (xs : List ℕ). lists_of old ++ xs ∷ []) same

pub length_lists : (lists : List (Vec ℕ Global)) → length (lists_of lists) ≡ length lists
length_lists lists = length-map lists (λ (v : Vec ℕ Global). v.items)

pub list_at : (lists : List (Vec ℕ Global)) (k : ℕ) (v : Vec ℕ Global) → k < length lists → v ≡ get_or lists k v → v.items ≡ set_at (lists_of lists) k
list_at lists k v lt e = ap (λ (w : Vec ℕ Global). w.items) e ∙ sym (get_or-map (λ (w : Vec ℕ Global). w.items) lists k v [] lt)
