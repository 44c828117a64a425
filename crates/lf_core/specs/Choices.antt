-- Cases of tests and of options, with their equations.
use Rattle.std.proofs.Common.{◌≡◌, ℕ, ◌<◌, ◌≤◌, ◌⊎◌, inl, inr, Option, None, Some, true, false, ltb, refl}
use Rattle.std.proofs.lemmas.Bool.{cases_lt, lt-ltb, le-ltb}

pub option_cases : {A : Type 0} (o : Option A) → (o ≡ None) ⊎ ((a : A) × (o ≡ Some a))
option_cases None = inl refl
option_cases (Some a) = inr (a, refl)

pub below : (a b : ℕ) → ((ltb a b ≡ true) × (a < b)) ⊎ ((ltb a b ≡ false) × (b ≤ a))
below a b = elim (cases_lt a b) [ inl less ↦ inl (lt-ltb a b less, less) | inr more ↦ inr (le-ltb a b more, more) ]

pub unwrap : {A : Type 0} (a b : A) → Some a ≡ Some b → a ≡ b
unwrap a b e = cc
