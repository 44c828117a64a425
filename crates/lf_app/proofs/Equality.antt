-- Two records that don't differ are equal.
use Rattle.std.proofs.Common.{◌≡◌, ◌≢◌, ℕ, List, [], ◌∷◌, refl, ap, ◌∙◌, ◌⊎◌, inl, inr}
use Rattle.std.specs.Prelude.{ℤ}
use Rattle.std.proofs.Math.IntN.{ℤ_discrete}
use Rattle.std.proofs.lemmas.Bool.{cases_eq}
use Rattle.lf_core.specs.declared.values.Moment.{Moment as OneMoment}
use Rattle.lf_core.specs.declared.values.Value.{Value}
use Rattle.lf_core.specs.declared.values.Value.TheVariants.{Missing, Num, Text, Moment, Day, Clock}

abbrev Cases : {A : Type 0} → A → A → Type 0
Cases {A} a b = (a ≡ b) ⊎ (a ≢ b)

list_cases : {A : Type 0} → ((a b : A) → Cases a b) → (xs ys : List A) → Cases xs ys
list_cases each [] [] = inl refl
list_cases each [] (y ∷ ys) = inr (λ e. cc)
list_cases each (x ∷ xs) [] = inr (λ e. cc)
list_cases each (x ∷ xs) (y ∷ ys) = elim (each x y) [
  | inl same ↦ elim (list_cases each xs ys) [ inl rest ↦ inl (cc) | inr other ↦ inr (λ e. other (cc)) ]
  | inr other ↦ inr (λ e. other (cc))
]

int_cases : (a b : ℤ) → Cases a b
int_cases a b = elim (ℤ_discrete a b) [ yes p ↦ inl p | no q ↦ inr q ]

moment_is : (s t : ℤ) (m n : ℕ) (o p : ℤ) → s ≡ t → m ≡ n → o ≡ p → ◌≡◌ {A = OneMoment} (record { seconds = s; millis = m; offset = o }) (record { seconds = t; millis = n; offset = p })
moment_is s t m n o p a b c =
    ap (λ (s : ℤ). record { seconds = s; millis = m; offset = o }) a
    ∙ ap (λ (m : ℕ). record { seconds = t; millis = m; offset = o }) b
    ∙ ap (λ (o : ℤ). record { seconds = t; millis = n; offset = o }) c

moment_cases : (a b : OneMoment) → Cases a b
moment_cases a b = elim (int_cases a.seconds b.seconds) [
  | inr other ↦ inr (λ e. other (ap (λ (m : OneMoment). m.seconds) e))
  | inl seconds ↦ elim (cases_eq a.millis b.millis) [
    | inr other ↦ inr (λ e. other (ap (λ (m : OneMoment). m.millis) e))
    | inl millis ↦ elim (int_cases a.offset b.offset) [
      | inr other ↦ inr (λ e. other (ap (λ (m : OneMoment). m.offset) e))
      | inl offset ↦ inl (moment_is a.seconds b.seconds a.millis b.millis a.offset b.offset seconds millis offset)
    ]
  ]
]

value_cases : (v w : Value) → Cases v w
value_cases Missing Missing = inl refl
value_cases (Num a) (Num b) = elim (int_cases a b) [ inl same ↦ inl (ap Num same) | inr other ↦ inr (λ e. other (cc)) ]
value_cases (Text a) (Text b) = elim (list_cases cases_eq a b) [ inl same ↦ inl (ap Text same) | inr other ↦ inr (λ e. other (cc)) ]
value_cases (Moment a) (Moment b) = elim (moment_cases a b) [ inl same ↦ inl (ap Moment same) | inr other ↦ inr (λ e. other (cc)) ]
value_cases (Day a) (Day b) = elim (int_cases a b) [ inl same ↦ inl (ap Day same) | inr other ↦ inr (λ e. other (cc)) ]
value_cases (Clock a) (Clock b) = elim (cases_eq a b) [ inl same ↦ inl (ap Clock same) | inr other ↦ inr (λ e. other (cc)) ]
value_cases v w = inr (λ e. cc)

pub same_record : (r s : List Value) → (r ≢ s → ⊥) → r ≡ s
same_record r s alike = elim (list_cases value_cases r s) [ inl same ↦ same | inr other ↦ absurd (alike other) ]
