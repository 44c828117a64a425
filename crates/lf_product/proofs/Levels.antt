-- The search by levels.
use Rattle.std.proofs.Common.{◌≡◌, ◌≢◌, ℕ, zero, suc, ◌+◌, ◌*◌, ◌<◌, ◌≤◌, ◌⊎◌, inl, inr, Bool, true, false, not, ◌||◌, ◌&&◌, cond, eqb, List, [], ◌∷◌, ◌++◌, length, get_or, set, length-set, refl, sym, ap, ◌∙◌, subst, arith, None, Some}
use Rattle.std.specs.Int.{div_ceil}
use Rattle.std.specs.List.{Contains, count_by}
use Rattle.std.proofs.lemmas.Bool.{cases_eq, cases_lt, eqb-true}
use Rattle.std.proofs.lemmas.Nat.{mul-le}
use Rattle.std.proofs.lemmas.List.{length-append}
use Rattle.std.proofs.lemmas.List.Sums.{sum_by-set}
use Rattle.std.proofs.lemmas.List.Elements.{Contains-push, Contains-push_cases, Contains-append_left, All-contains}
use Rattle.lf_core.specs.declared.marked.Move.{Move}
use Rattle.lf_core.specs.Marked.{Machine, IsMachine}
use Rattle.lf_product.specs.declared.pair.SmallPair.{SmallPair}
use Rattle.lf_product.specs.Distance.{PairStep, Suffices, IsDistance}
use Rattle.lf_product.specs.declared.pages.TheConstants.{NONE, PAGE, BLOCK}
use Rattle.lf_limits.specs.Limits.{most_size}
use Rattle.lf_product.specs.Pages.{cell, pages_for}
use Rattle.lf_product.specs.Cells.{steps_at, put_at, IsExact}
use Rattle.lf_product.specs.Level.{pair, Waits, IsAfterSome, Reached, Grows, Complete, AllBefore, IsWhole, Standing, Going}
use Rattle.lf_product.proofs.Places.{one_if, cell-lt, cell_same, cell_swap, eqb_comm, steps_at-set_same, steps_at-set_other, steps_at-same}

pub grows-trans : (n none : ℕ) (ds es fs : List ℕ) → Grows n none ds es → Grows n none es fs → Grows n none ds fs
grows-trans n none ds es fs g h = record {
  stays = λ a b d ha hb low.
      let e = g.stays a b d ha hb low in
      h.stays a b d ha hb (omega (arith, e, low)) ∙ e;
  same_length = h.same_length ∙ g.same_length;
}

-- where nothing changes, the search goes on
pub going_same : (m : Machine) (none steps : ℕ) (ds : List ℕ) (ws : List SmallPair) → Standing m none steps ds ws → Going m none steps ds ws ds ws
going_same m none steps ds ws s = record {
  whole = s.whole;
  reached = s.reached;
  grows = record { stays = λ a b d ha hb low. refl; same_length = refl };
  less_room = omega arith;
}

-- what goes on stands
pub standing_on : (m : Machine) (none steps : ℕ) (ds es : List ℕ) (ws xs : List SmallPair) → Standing m none steps ds ws → Going m none steps ds ws es xs → Standing m none steps es xs
standing_on m none steps ds es ws xs s g = record { few = s.few; small = s.small; whole = g.whole; reached = g.reached }

pub going_trans : (m : Machine) (none steps : ℕ) (ds es fs : List ℕ) (ws xs ys : List SmallPair) → Going m none steps ds ws es xs → Going m none steps es xs fs ys → Going m none steps ds ws fs ys
going_trans m none steps ds es fs ws xs ys g h = record {
  whole = h.whole;
  reached = h.reached;
  grows = grows-trans m.count none ds es fs g.grows h.grows;
  less_room = let p = g.less_room in let q = h.less_room in omega (arith, p, q);
}

-- the order of the points changes nothing
step_swap : (m : Machine) (a b : ℕ) (d : Bool) (a' b' : ℕ) (d' : Bool) → PairStep m a b d a' b' d' → PairStep m b a d b' a' d'
step_swap m a b d a' b' d' s =
    let marks : eqb s.left.mark s.right.mark ≡ eqb s.right.mark s.left.mark = eqb_comm s.left.mark s.right.mark in
    let points : eqb s.left.to s.right.to ≡ eqb s.right.to s.left.to = eqb_comm s.left.to s.right.to in
    record {
      byte = s.byte;
      left = s.right;
      right = s.left;
      on_left = s.on_right;
      on_right = s.on_left;
      left_to = s.right_to;
      right_to = s.left_to;
      value = rw (← marks, ← points) s.value;
    }

swap : (m : Machine) (k a b : ℕ) (d : Bool) → Suffices m k a b d → Suffices m k b a d
swap m zero a b d (e, f, t) = (f, e, t)
swap m (suc k) a b d (a', b', d', step, rest) = (b', a', d', step_swap m a b d a' b' d' step, swap m k a' b' d' rest)

suffices_same : (m : Machine) (k a b : ℕ) (d : Bool) (a' b' : ℕ) (d' : Bool) → cell a' b' d' ≡ cell a b d → Suffices m k a b d → Suffices m k a' b' d'
suffices_same m k a b d a' b' d' same h =
    let (points, e) = cell_same a' b' d' a b d same in
    elim points [ inl (p, q) ↦ rw (p, q, e) h | inr (p, q) ↦ rw (p, q, e) (swap m k a b d h) ]

-- the pair that is put last waits
waits_last : (waiting : List SmallPair) (a b : ℕ) (d : Bool) (a' b' : ℕ) (d' : Bool) → cell a' b' d' ≡ cell a b d → Waits (waiting ++ pair a b d ∷ []) a' b' d'
waits_last waiting a b d a' b' d' same =
    let (points, e) = cell_same a' b' d' a b d same in
    elim points [ inl (p, q) ↦ rw (p, q, e) (inl (Contains-push waiting (pair a b d))) | inr (p, q) ↦ rw (p, q, e) (inr (Contains-push waiting (pair a b d))) ]

waits_more : (waiting : List SmallPair) (p : SmallPair) (a b : ℕ) (d : Bool) → Waits waiting a b d → Waits (waiting ++ p ∷ []) a b d
waits_more waiting p a b d (inl h) = inl (Contains-append_left waiting (p ∷ []) (pair a b d) h)
waits_more waiting p a b d (inr h) = inr (Contains-append_left waiting (p ∷ []) (pair b a d) h)

-- a pair that had no distance gets one, and waits where a step can lead to it
pub mark_reached : (m : Machine) (n none top : ℕ) (ds : List ℕ) (waiting more : List SmallPair) (a b : ℕ) (d : Bool) → a < n → b < n → top < none → none ≤ steps_at ds a b d → cell a b d < length ds → Suffices m top a b d →
    ((a' b' : ℕ) (d' : Bool) → Waits waiting a' b' d' → Waits more a' b' d') → ((a' b' : ℕ) (d' : Bool) → cell a' b' d' ≡ cell a b d → IsAfterSome a' b' d' → Waits more a' b' d') → ((p : SmallPair) → Contains more p → Contains waiting p ⊎ (pair a b d ≡ p)) →
    Reached m n none top ds waiting → Reached m n none top (put_at ds a b d top) more
mark_reached m n none top ds waiting more a b d ha hb small free inside steps kept waits from r =
    let same = λ (a' b' : ℕ) (d' : Bool) (e : cell a' b' d' ≡ cell a b d). steps_at-set_same ds a b d top a' b' d' e inside in
    record {
      reached = λ a' b' d' ha' hb' low.
          elim (cases_eq (cell a' b' d') (cell a b d)) [
            | inl e ↦ rw (same a' b' d' e) (suffices_same m top a b d a' b' d' e steps)
            | inr other ↦ let s = steps_at-set_other ds a b d top a' b' d' other in rw s (r.reached a' b' d' ha' hb' (omega (arith, s, low)))
          ];
      low = λ a' b' d' ha' hb'.
          elim (cases_eq (cell a' b' d') (cell a b d)) [
            | inl e ↦ rw (same a' b' d' e) (omega arith)
            | inr other ↦ rw (steps_at-set_other ds a b d top a' b' d' other) (r.low a' b' d' ha' hb')
          ];
      within = λ a' b' d' ha' hb' low.
          elim (cases_eq (cell a' b' d') (cell a b d)) [
            | inl e ↦ rw (same a' b' d' e) (omega arith)
            | inr other ↦ let s = steps_at-set_other ds a b d top a' b' d' other in rw s (r.within a' b' d' ha' hb' (omega (arith, s, low)))
          ];
      waits = λ a' b' d' ha' hb' after is.
          elim (cases_eq (cell a' b' d') (cell a b d)) [
            | inl e ↦ waits a' b' d' e after
            | inr other ↦ kept a' b' d' (r.waits a' b' d' ha' hb' after (sym (steps_at-set_other ds a b d top a' b' d' other) ∙ is))
          ];
      waits_left = λ p h. elim (from p h) [ inl k ↦ r.waits_left p k | inr e ↦ subst (λ (q : SmallPair). q.left < n) e ha ];
      waits_right = λ p h. elim (from p h) [ inl k ↦ r.waits_right p k | inr e ↦ subst (λ (q : SmallPair). q.right < n) e hb ];
      waits_at = λ p h. elim (from p h) [ inl k ↦ r.waits_at p k | inr e ↦ subst (λ (q : SmallPair). Suffices m top q.left q.right q.differed) e steps ];
    }

pub mark_grows : (n none top : ℕ) (ds : List ℕ) (a b : ℕ) (d : Bool) → none ≤ steps_at ds a b d → Grows n none ds (put_at ds a b d top)
mark_grows n none top ds a b d free = record {
  stays = λ a' b' d' ha' hb' low.
      elim (cases_eq (cell a' b' d') (cell a b d)) [
        | inl e ↦ let is = steps_at-same ds a b d a' b' d' e in absurd (omega (arith, is, low, free))
        | inr other ↦ steps_at-set_other ds a b d top a' b' d' other
      ];
  same_length = length-set ds (cell a b d) top;
}

step_in : (m : Machine) (a b : ℕ) (d : Bool) (a' b' : ℕ) (d' : Bool) → IsMachine m → a < m.count → b < m.count → PairStep m a b d a' b' d' → (a' < m.count) × (b' < m.count)
step_in m a b d a' b' d' lawful ha hb s =
    let l : s.left.to < m.count = All-contains (λ (x : Move). x.to < m.count) (m.moves a s.byte) s.left (lawful.stays a s.byte ha) s.on_left in
    let r : s.right.to < m.count = All-contains (λ (x : Move). x.to < m.count) (m.moves b s.byte) s.right (lawful.stays b s.byte hb) s.on_right in
    (rw (← s.left_to) l, rw (← s.right_to) r)

eqb_is : (a b : ℕ) → a ≡ b → eqb a b ≡ true
eqb_is a b h = grind arith

eqb_is_not : (a b : ℕ) → a ≢ b → eqb a b ≡ false
eqb_is_not a b h = grind arith

apart : (d p q : Bool) → q ≡ false → (d || not (p && q)) ≡ true
apart true p q h = refl
apart false true q h = ap not h
apart false false q h = refl

-- a step leads to one point, or sets the value
step_after : (m : Machine) (a b : ℕ) (d : Bool) (a' b' : ℕ) (d' : Bool) → PairStep m a b d a' b' d' → IsAfterSome a' b' d'
step_after m a b d a' b' d' s =
    elim (cases_eq a' b') [
      | inl e ↦ inl e
      | inr ne ↦
          let other : s.left.to ≢ s.right.to = λ e. ne (sym s.left_to ∙ e ∙ s.right_to) in
          inr (sym s.value ∙ apart d (eqb s.left.mark s.right.mark) (eqb s.left.to s.right.to) (eqb_is_not s.left.to s.right.to other))
    ]

before : (m : Machine) (none : ℕ) (es : List ℕ) (level : List SmallPair) → AllBefore m none es level → (a b : ℕ) (d : Bool) (a' b' : ℕ) (d' : Bool) → a < m.count → b < m.count → PairStep m a b d a' b' d' → Waits level a' b' d' → steps_at es a b d < none
before m none es level all a b d a' b' d' ha hb step (inl h) = all (pair a' b' d') h a b d ha hb step
before m none es level all a b d a' b' d' ha hb step (inr h) = rw (steps_at-same es b a d a b d (cell_swap a b d)) (all (pair b' a' d') h b a d hb ha (step_swap m a b d a' b' d' step))

next : (m : Machine) (none k : ℕ) (ds es : List ℕ) (level waiting : List SmallPair) → IsMachine m → k + 1 < none → Reached m m.count none k ds level → Complete m m.count k ds → Reached m m.count none (k + 1) es waiting → Grows m.count none ds es → AllBefore m none es level → (a b : ℕ) (d : Bool) (j : ℕ) → a < m.count → b < m.count → j ≤ k + 1 → Suffices m j a b d → steps_at es a b d ≤ j
next m none k ds es level waiting lawful small r c s g all a b d zero ha hb le h =
    let old : steps_at ds a b d ≤ 0 = c.complete a b d 0 ha hb (omega arith) h in
    let e : steps_at es a b d ≡ steps_at ds a b d = g.stays a b d ha hb (omega (arith, old, small)) in
    omega (arith, old, e)
next m none k ds es level waiting lawful small r c s g all a b d (suc j) ha hb le (a', b', d', step, rest) =
    let inside = step_in m a b d a' b' d' lawful ha hb step in
    let n : ℕ = m.count in
    let there : steps_at ds a' b' d' ≤ j = c.complete a' b' d' j inside.0 inside.1 (omega (arith, le)) rest in
    elim (cases_lt (steps_at ds a' b' d') k) [
      | inl lt ↦
          let i : ℕ = steps_at ds a' b' d' in
          let way : Suffices m i a' b' d' = r.reached a' b' d' inside.0 inside.1 (omega (arith, lt, small)) in
          let old : steps_at ds a b d ≤ suc i = c.complete a b d (suc i) ha hb (omega (arith, lt)) (a', b', d', step, way) in
          let e : steps_at es a b d ≡ steps_at ds a b d = g.stays a b d ha hb (omega (arith, old, lt, small)) in
          omega (arith, old, e, there)
      | inr ge ↦
          let is : steps_at ds a' b' d' ≡ k = omega (arith, ge, there, le) in
          let low : steps_at es a b d < none = before m none es level all a b d a' b' d' ha hb step (r.waits a' b' d' inside.0 inside.1 (step_after m a b d a' b' d' step) is) in
          let top : steps_at es a b d ≤ k + 1 = s.within a b d ha hb low in
          omega (arith, top, ge, there)
    ]

-- one level more
pub next_complete : (m : Machine) (none k : ℕ) (ds es : List ℕ) (level waiting : List SmallPair) → IsMachine m → k + 1 < none → Reached m m.count none k ds level → Complete m m.count k ds → Reached m m.count none (k + 1) es waiting → Grows m.count none ds es → AllBefore m none es level → Complete m m.count (k + 1) es
next_complete m none k ds es level waiting lawful small r c s g all = record {
  complete = λ a b d j ha hb le h. next m none k ds es level waiting lawful small r c s g all a b d j ha hb le h;
}

none_waits : (p : SmallPair) → Contains [] p → ⊥
none_waits p (k, lt, is) = absurd (omega (arith, lt))

-- where nothing waits, whatever suffices has a distance
none_left : (m : Machine) (none k : ℕ) (ds : List ℕ) → IsMachine m → k < none → Reached m m.count none k ds [] → Complete m m.count k ds → (j : ℕ) (a b : ℕ) (d : Bool) → a < m.count → b < m.count → Suffices m j a b d → (steps_at ds a b d < none) × (steps_at ds a b d ≤ j)
none_left m none k ds lawful small r c zero a b d ha hb h =
    let le : steps_at ds a b d ≤ 0 = c.complete a b d 0 ha hb (omega arith) h in
    (omega (arith, le, small), le)
none_left m none k ds lawful small r c (suc j) a b d ha hb (a', b', d', step, rest) =
    let inside = step_in m a b d a' b' d' lawful ha hb step in
    let n : ℕ = m.count in
    let there = none_left m none k ds lawful small r c j a' b' d' inside.0 inside.1 rest in
    let within : steps_at ds a' b' d' ≤ k = r.within a' b' d' inside.0 inside.1 there.0 in
    elim (cases_lt (steps_at ds a' b' d') k) [
      | inl lt ↦
          let i : ℕ = steps_at ds a' b' d' in
          let way : Suffices m i a' b' d' = r.reached a' b' d' inside.0 inside.1 there.0 in
          let le : steps_at ds a b d ≤ suc i = c.complete a b d (suc i) ha hb (omega (arith, lt)) (a', b', d', step, way) in
          (omega (arith, le, lt, small), omega (arith, le, there))
      | inr ge ↦ elim (r.waits a' b' d' inside.0 inside.1 (step_after m a b d a' b' d' step) (omega (arith, ge, within))) [ inl w ↦ absurd (none_waits (pair a' b' d') w) | inr w ↦ absurd (none_waits (pair b' a' d') w) ]
    ]

by_test : (m : Machine) (a b : ℕ) (d : Bool) (t : Bool) (x : ℕ) → (t ≡ true → (n : ℕ) → Suffices m n a b d → ⊥) → (t ≡ false → Suffices m x a b d × ((n : ℕ) → Suffices m n a b d → x ≤ n)) → IsDistance m a b d (cond t None (Some x))
by_test m a b d true x f g = f refl
by_test m a b d false x f g = g refl

eqb_false : (a b : ℕ) → eqb a b ≡ false → a ≢ b
eqb_false a b h = grind arith

-- so the distances are exact
pub exact : (m : Machine) (none k : ℕ) (ds : List ℕ) → IsMachine m → k < none → Reached m m.count none k ds [] → Complete m m.count k ds → IsExact m m.count none ds
exact m none k ds lawful small r c a b d ha hb =
    by_test m a b d (eqb (steps_at ds a b d) none) (steps_at ds a b d)
    (λ t n h.
    let e : steps_at ds a b d ≡ none = eqb-true (steps_at ds a b d) none t in
    let p = none_left m none k ds lawful small r c n a b d ha hb h in
    omega (arith, e, p.0))
    (λ t.
    let ne : steps_at ds a b d ≢ none = eqb_false (steps_at ds a b d) none t in
    let le : steps_at ds a b d ≤ none = r.low a b d ha hb in (
      r.reached a b d ha hb (omega (arith, ne, le)),
      λ n h. (none_left m none k ds lawful small r c n a b d ha hb h).1,
    ))

pub inside : (m : Machine) (ds : List ℕ) (a b : ℕ) (d : Bool) → IsWhole m ds → a < m.count → b < m.count → cell a b d < length ds
inside m ds a b d whole ha hb = omega (arith, whole, cell-lt m.count a b d ha hb)

-- a pair that is reached, and waits
pub reached_waits : (m : Machine) (none top : ℕ) (ds : List ℕ) (waiting : List SmallPair) (p : SmallPair) → IsWhole m ds → steps_at ds p.left p.right p.differed ≡ none → p.left < m.count → p.right < m.count → top < none → Suffices m top p.left p.right p.differed → Reached m m.count none top ds waiting → Reached m m.count none top (put_at ds p.left p.right p.differed top) (waiting ++ p ∷ [])
reached_waits m none top ds waiting p whole free ha hb small way r =
    mark_reached m m.count none top ds waiting (waiting ++ p ∷ []) p.left p.right p.differed ha hb small (omega (arith, free)) (inside m ds p.left p.right p.differed whole ha hb) way
    (λ a' b' d' w. waits_more waiting p a' b' d' w)
    (λ a' b' d' e after. waits_last waiting p.left p.right p.differed a' b' d' e)
    (λ q h. Contains-push_cases waiting p q h)
    r

never_after : (a b : ℕ) (d : Bool) → a ≢ b → d ≡ false → IsAfterSome a b d → ⊥
never_after a b d ne off (inl e) = ne e
never_after a b d ne off (inr on) = absurd (let t : false ≡ true = sym off ∙ on in cc)

-- a pair that is reached where no step leads to it
pub reached_first : (m : Machine) (none top : ℕ) (ds : List ℕ) (waiting : List SmallPair) (p : SmallPair) → IsWhole m ds → steps_at ds p.left p.right p.differed ≡ none → p.left < m.count → p.right < m.count → top < none → Suffices m top p.left p.right p.differed → p.left ≢ p.right → p.differed ≡ false → Reached m m.count none top ds waiting → Reached m m.count none top (put_at ds p.left p.right p.differed top) waiting
reached_first m none top ds waiting p whole free ha hb small way ne off r =
    mark_reached m m.count none top ds waiting waiting p.left p.right p.differed ha hb small (omega (arith, free)) (inside m ds p.left p.right p.differed whole ha hb) way
    (λ a' b' d' w. w)
    (λ a' b' d' e after.
    let (points, same) = cell_same a' b' d' p.left p.right p.differed e in
    absurd (elim points [
      | inl (x, y) ↦ never_after a' b' d' (λ q. ne (sym x ∙ q ∙ y)) (same ∙ off) after
      | inr (x, y) ↦ never_after a' b' d' (λ q. ne (sym y ∙ sym q ∙ x)) (same ∙ off) after
    ]))
    (λ q h. inl h)
    r

pub has_steps : (m : Machine) (none top : ℕ) (ds : List ℕ) (p : SmallPair) → IsWhole m ds → p.left < m.count → p.right < m.count → top < none → steps_at (put_at ds p.left p.right p.differed top) p.left p.right p.differed < none
has_steps m none top ds p whole ha hb small =
    let s = steps_at-set_same ds p.left p.right p.differed top p.left p.right p.differed refl (inside m ds p.left p.right p.differed whole ha hb) in omega (arith, s, small)

-- what an exact answer says
none_test : (m : Machine) (a b : ℕ) (d : Bool) (t : Bool) (x : ℕ) → t ≡ true → IsDistance m a b d (cond t None (Some x)) → (n : ℕ) → Suffices m n a b d → ⊥
none_test m a b d true x e h = h
none_test m a b d false x e h = absurd (cc)

some_test : (m : Machine) (a b : ℕ) (d : Bool) (t : Bool) (x : ℕ) → t ≡ false → IsDistance m a b d (cond t None (Some x)) → Suffices m x a b d × ((n : ℕ) → Suffices m n a b d → x ≤ n)
some_test m a b d true x e h = absurd (cc)
some_test m a b d false x e h = h

pub none_from_answer : (m : Machine) (n none : ℕ) (ds : List ℕ) (a b : ℕ) (d : Bool) (x : ℕ) → IsExact m n none ds → a < n → b < n → steps_at ds a b d ≡ x → x ≡ none → (k : ℕ) → Suffices m k a b d → ⊥
none_from_answer m n none ds a b d x h ha hb e is = none_test m a b d (eqb (steps_at ds a b d) none) (steps_at ds a b d) (eqb_is (steps_at ds a b d) none (e ∙ is)) (h a b d ha hb)

pub some_from_answer : (m : Machine) (n none : ℕ) (ds : List ℕ) (a b : ℕ) (d : Bool) (x : ℕ) → IsExact m n none ds → a < n → b < n → steps_at ds a b d ≡ x → x ≢ none → Suffices m x a b d × ((k : ℕ) → Suffices m k a b d → x ≤ k)
some_from_answer m n none ds a b d x h ha hb e is = rw (← e) (some_test m a b d (eqb (steps_at ds a b d) none) (steps_at ds a b d) (eqb_is_not (steps_at ds a b d) none (λ q. is (sym e ∙ q))) (h a b d ha hb))

-- a distance that is set takes a cell
taken : (m : Machine) (none top : ℕ) (ds : List ℕ) (p : SmallPair) → IsWhole m ds → steps_at ds p.left p.right p.differed ≡ none → p.left < m.count → p.right < m.count → top < none → count_by (λ (y : ℕ). eqb y none) (put_at ds p.left p.right p.differed top) + 1 ≡ count_by (λ (y : ℕ). eqb y none) ds
unfolding steps_at
taken m none top ds p whole free ha hb small =
    let at : ℕ = cell p.left p.right p.differed in
    let s : count_by (λ (y : ℕ). eqb y none) (set ds at top) + one_if (eqb (get_or ds at 0) none) ≡ count_by (λ (y : ℕ). eqb y none) ds + one_if (eqb top none) = sum_by-set (λ (y : ℕ). cond (eqb y none) 1 0) ds at top 0 (inside m ds p.left p.right p.differed whole ha hb) in
    let old : one_if (eqb (get_or ds at 0) none) ≡ 1 = ap (λ (t : Bool). one_if t) (eqb_is (get_or ds at 0) none free) in
    let new : one_if (eqb top none) ≡ 0 = ap (λ (t : Bool). one_if t) (eqb_is_not top none (λ q. omega (arith, q, small))) in
    omega (arith, s, old, new)

-- what the search keeps where a pair is reached
pub going_waits : (m : Machine) (none top : ℕ) (ds : List ℕ) (waiting : List SmallPair) (p : SmallPair) → Standing m none top ds waiting → steps_at ds p.left p.right p.differed ≡ none → p.left < m.count → p.right < m.count → Suffices m top p.left p.right p.differed → Going m none top ds waiting (put_at ds p.left p.right p.differed top) (waiting ++ p ∷ [])
going_waits m none top ds waiting p s free ha hb way =
    let grows = mark_grows m.count none top ds p.left p.right p.differed (omega (arith, free)) in
    record {
      whole = grows.same_length ∙ s.whole;
      reached = reached_waits m none top ds waiting p s.whole free ha hb s.small way s.reached;
      grows = grows;
      less_room = let t = taken m none top ds p s.whole free ha hb s.small in omega (arith, t, length-append waiting (p ∷ []));
    }

pub going_first : (m : Machine) (none top : ℕ) (ds : List ℕ) (waiting : List SmallPair) (p : SmallPair) → Standing m none top ds waiting → steps_at ds p.left p.right p.differed ≡ none → p.left < m.count → p.right < m.count → Suffices m top p.left p.right p.differed → p.left ≢ p.right → p.differed ≡ false → Going m none top ds waiting (put_at ds p.left p.right p.differed top) waiting
going_first m none top ds waiting p s free ha hb way ne off =
    let grows = mark_grows m.count none top ds p.left p.right p.differed (omega (arith, free)) in
    record {
      whole = grows.same_length ∙ s.whole;
      reached = reached_first m none top ds waiting p s.whole free ha hb s.small way ne off s.reached;
      grows = grows;
      less_room = let t = taken m none top ds p s.whole free ha hb s.small in omega (arith, t);
    }

pages_fit : (n : ℕ) → n ≤ most_size → pages_for n ≤ 8256
unfolding pages_for
pages_fit n h =
    let blocks : div_ceil n BLOCK ≤ 128 = omega (arith, h) in
    let p : div_ceil n BLOCK * (div_ceil n BLOCK + 1) ≤ 128 * 129 = mul-le (div_ceil n BLOCK) (div_ceil n BLOCK + 1) 128 129 blocks (omega (arith, blocks)) in
    omega (arith, p)

-- the steps are fewer than the cells
pub steps_fit : (n s r : ℕ) → n ≤ most_size → s + r ≤ pages_for n * PAGE → s + 1 < NONE
steps_fit n s r h k = omega (arith, pages_fit n h, k)
