-- What can be decided of numbers and lists, and sequences that stand still.
use Rattle.std.proofs.Common.{◌≡◌, ℕ, zero, suc, ◌+◌, ◌<◌, ◌≤◌, ◌⊎◌, inl, inr, Bool, true, false, List, [], ◌∷◌, refl, sym, subst, arith}
use Rattle.std.specs.List.{Contains}
use Rattle.std.proofs.lemmas.Bool.{cases_lt}
use Rattle.lf_product.proofs.Sweep.{contains_none}

abbrev pub Decided : Type 0 → Type 0
Decided P = P ⊎ (P → ⊥)

pub both-decided : {P Q : Type 0} → Decided P → Decided Q → Decided (P × Q)
both-decided (inl p) (inl q) = inl (p, q)
both-decided (inl p) (inr q) = inr (λ h. q h.1)
both-decided (inr p) q = inr (λ h. p h.0)

pub either-decided : {P Q : Type 0} → Decided P → Decided Q → Decided (P ⊎ Q)
either-decided (inl p) q = inl (inl p)
either-decided (inr p) (inl q) = inl (inr q)
either-decided (inr p) (inr q) = inr (λ h. elim h [ inl k ↦ p k | inr k ↦ q k ])

pub not-decided : {P : Type 0} → Decided P → Decided (P → ⊥)
not-decided (inl p) = inr (λ h. h p)
not-decided (inr p) = inl p

pub bool-decided : (b : Bool) → Decided (b ≡ true)
bool-decided true = inl refl
bool-decided false = inr (λ e. cc)

-- the first number with a property, below a bound
pub record FirstBelow (n : ℕ) (P : ℕ → Type 0) : Type 0 where
  pub at : ℕ
  pub below : at < n
  pub holds : P at
  pub none : (i : ℕ) → i < at → P i → ⊥

pub first_below : (n : ℕ) (P : ℕ → Type 0) → ((i : ℕ) → Decided (P i)) → FirstBelow n P ⊎ ((i : ℕ) → i < n → P i → ⊥)
first_below zero P dec = inr (λ i lt h. absurd (omega (arith, lt)))
first_below (suc n) P dec =
    elim (first_below n P dec) [
      | inl f ↦ inl (record { at = f.at; below = let lt = f.below in omega (arith, lt); holds = f.holds; none = f.none })
      | inr none ↦
          elim (dec n) [
            | inl p ↦ inl (record { at = n; below = omega arith; holds = p; none = none })
            | inr not ↦ inr (λ i lt h. elim (cases_lt i n) [ inl low ↦ none i low h | inr ge ↦ let e : i ≡ n = omega (arith, ge, lt) in not (subst P e h) ])
          ]
    ]

pub some_below : (n : ℕ) (P : ℕ → Type 0) → ((i : ℕ) → Decided (P i)) → Decided ((i : ℕ) × (i < n) × P i)
some_below n P dec = elim (first_below n P dec) [ inl f ↦ inl (f.at, f.below, f.holds) | inr none ↦ inr (λ h. none h.0 h.1 h.2) ]

pub contains_cases : {X : Type 0} (y : X) (ys : List X) (x : X) → Contains (y ∷ ys) x → (y ≡ x) ⊎ Contains ys x
contains_cases y ys x (zero, lt, is) = inl is
contains_cases y ys x (suc k, lt, is) = inr (k, omega (arith, lt), is)

pub contains_first : {X : Type 0} (x : X) (xs : List X) → Contains (x ∷ xs) x
contains_first x xs = (0, omega arith, refl)

pub contains_later : {X : Type 0} (y : X) (ys : List X) (x : X) → Contains ys x → Contains (y ∷ ys) x
contains_later y ys x (k, lt, is) = (suc k, omega (arith, lt), is)

pub some_listed : {X : Type 0} (xs : List X) (P : X → Type 0) → ((x : X) → Decided (P x)) → Decided ((x : X) × Contains xs x × P x)
some_listed [] P dec = inr (λ h. contains_none h.0 h.1)
some_listed (x ∷ xs) P dec =
    elim (dec x) [
      | inl p ↦ inl (x, contains_first x xs, p)
      | inr not ↦
          elim (some_listed xs P dec) [
            | inl h ↦ inl (h.0, contains_later x xs h.0 h.1, h.2)
            | inr none ↦ inr (λ h. elim (contains_cases x xs h.0 h.1) [ inl e ↦ not (subst P (sym e) h.2) | inr k ↦ none (h.0, k, h.2) ])
          ]
    ]

-- the sum of the first terms
abbrev pub sum_to : ℕ → (ℕ → ℕ) → ℕ
sum_to zero f = 0
sum_to (suc n) f = f n + sum_to n f

pub sum_le : (n : ℕ) (f g : ℕ → ℕ) → ((i : ℕ) → i < n → f i ≤ g i) → sum_to n f ≤ sum_to n g
sum_le zero f g h = omega arith
sum_le (suc n) f g h =
    let rest = sum_le n f g (λ i lt. h i (omega (arith, lt))) in
    let here = h n (omega arith) in
    omega (arith, rest, here)

pub sum_lt : (n : ℕ) (f g : ℕ → ℕ) → ((i : ℕ) → i < n → f i ≤ g i) → (j : ℕ) → j < n → f j < g j → sum_to n f < sum_to n g
sum_lt zero f g h j low lt = absurd (omega (arith, low))
sum_lt (suc n) f g h j low lt =
    let before : (i : ℕ) → i < n → f i ≤ g i = λ i k. h i (omega (arith, k)) in
    elim (cases_lt j n) [
      | inl below ↦ let rest = sum_lt n f g before j below lt in let here = h n (omega arith) in omega (arith, rest, here)
      | inr ge ↦
          let e : j ≡ n = omega (arith, ge, low) in
          let here : f n < g n = subst (λ (i : ℕ). f i < g i) e lt in
          let rest = sum_le n f g before in
          omega (arith, rest, here)
    ]

-- one where it holds
abbrev pub one_if : {P : Type 0} → Decided P → ℕ
one_if (inl p) = 1
one_if (inr never) = 0

pub one_low : {P : Type 0} (p : Decided P) → one_if p ≤ 1
one_low (inl p) = omega arith
one_low (inr never) = omega arith

pub one_le : {P Q : Type 0} (p : Decided P) (q : Decided Q) → (P → Q) → one_if p ≤ one_if q
one_le (inl p) (inl q) f = omega arith
one_le (inl p) (inr never) f = absurd (never (f p))
one_le (inr never) (inl q) f = omega arith
one_le (inr never) (inr not) f = omega arith

pub one_lt : {P Q : Type 0} (p : Decided P) (q : Decided Q) → (P → ⊥) → Q → one_if p < one_if q
one_lt (inl p) q none some = absurd (none p)
one_lt (inr never) (inl q) none some = omega arith
one_lt (inr never) (inr not) none some = absurd (not some)

still_from : (r k : ℕ) (w : ℕ → ℕ) (most : ℕ) (New : ℕ → Type 0) → ((i : ℕ) → w i ≤ most) → ((i : ℕ) → Decided (New i)) → ((i : ℕ) → New i → w i < w (suc i)) → most ≤ r + w k → (i : ℕ) × (New i → ⊥)
still_from zero k w most New low dec grows le = (k, λ h. let more = grows k h in let top = low (suc k) in absurd (omega (arith, le, more, top)))
still_from (suc r) k w most New low dec grows le =
    elim (dec k) [
      | inl h ↦ still_from r (suc k) w most New low dec grows (let more = grows k h in omega (arith, le, more))
      | inr never ↦ (k, never)
    ]

-- what weighs no more than so much, and more after each step that adds, has a step that adds nothing
pub stands_still : (w : ℕ → ℕ) (most : ℕ) (New : ℕ → Type 0) → ((i : ℕ) → w i ≤ most) → ((i : ℕ) → Decided (New i)) → ((i : ℕ) → New i → w i < w (suc i)) → (i : ℕ) × (New i → ⊥)
stands_still w most New low dec grows = still_from most 0 w most New low dec grows (omega arith)
