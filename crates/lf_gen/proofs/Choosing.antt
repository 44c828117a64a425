-- The least of some letters or values, with one more looked at.
use Rattle.std.proofs.Common.{◌≡◌, ◌≢◌, ℕ, ◌+◌, ◌<◌, inl, inr, List, [], ◌∷◌, ◌++◌, Option, None, Some, true, false, ltb, Ordering, Less, Equal, Greater, refl, sym, ap, subst, ◌∙◌, arith}
use Rattle.std.specs.Ordering.{is_gt, ordering_reverse}
use Rattle.std.specs.Cmp.{IsTotalOrder}
use Rattle.std.proofs.lemmas.Cmp.{then_total, on_total, nat_cmp_total, upto, tied_itself}
use Rattle.std.proofs.lemmas.Bool.{and_parts, cases_lt, lt-ltb}
use Rattle.std.proofs.lemmas.List.Elements.{Contains-push_cases}
use Rattle.lf_core.specs.Class.{is_member}
use Rattle.lf_core.specs.declared.class.Class.{Class}
use Rattle.lf_core.specs.declared.values.Value.{Value}
use Rattle.lf_escape.specs.Codings.{coding_takes, coding_word}
use Rattle.lf_escape.specs.declared.coding.Coding.{Coding}
use Rattle.lf_format.specs.Slots.{Holds}
use Rattle.lf_format.specs.declared.slot.Slot.{Slot}
use Rattle.lf_gen.specs.Compared.{key_of, key_cmp, IsLeastOf}
use Rattle.lf_gen.specs.Letters.{IsCoded, letter_cmp, IsLeastLetter}
use Rattle.lf_gen.proofs.LeastOfAll.{line_total, key_total, above-none, not_above-trans}

turned : (o : Ordering) → o ≢ Less → is_gt (ordering_reverse o) ≡ false
turned Less h = absurd (h refl)
turned Equal h = refl
turned Greater h = refl

-- ---- letters

letter_total : (code : Coding) → IsTotalOrder (letter_cmp code)
letter_total code = then_total (on_total (coding_word code) line_total) nat_cmp_total

module _ (code : Coding) (set : Class) (b : ℕ) where
  pub skip-letter : (least : Option ℕ) → (IsCoded code set b → ⊥) → IsLeastLetter code set b least → IsLeastLetter code set (b + 1) least
  skip-letter None never h = λ letter less is. elim (cases_lt letter b) [
    | inl low ↦ h letter low is
    | inr high ↦ never (let same : letter ≡ b = omega (arith, less, high) in subst (IsCoded code set) same is)
  ]
  skip-letter (Some other) never h = (
    h.0,
    λ letter less is. elim (cases_lt letter b) [
      | inl low ↦ h.1 letter low is
      | inr high ↦ absurd (never (let same : letter ≡ b = omega (arith, less, high) in subst (IsCoded code set) same is))
    ],
  )

  pub not-member : is_member set b ≡ false → IsCoded code set b → ⊥
  not-member miss is = let hit = (and_parts (ltb b 256) (is_member set b) is.0).1 in let bad = sym miss ∙ hit in cc

  pub not-taken : coding_takes code b ≡ false → IsCoded code set b → ⊥
  not-taken miss is = let bad = sym miss ∙ is.1 in cc

  pub coded-letter : b < 256 → is_member set b ≡ true → coding_takes code b ≡ true → IsCoded code set b
  coded-letter low member taken = (rw (lt-ltb b 256 low, member) refl, taken)

  same-letter : (letter : ℕ) → letter ≡ b → is_gt (letter_cmp code b letter) ≡ false
  same-letter letter same = subst (λ (x : ℕ). is_gt (letter_cmp code b x) ≡ false) (sym same) (ap is_gt (tied_itself (letter_total code) b))

  pub first-letter : IsCoded code set b → IsLeastLetter code set b None → IsLeastLetter code set (b + 1) (Some b)
  first-letter is h = (
    is,
    λ letter less coded. elim (cases_lt letter b) [
      | inl low ↦ absurd (h letter low coded)
      | inr high ↦ (let same : letter ≡ b = omega (arith, less, high) in same-letter letter same)
    ],
  )

  pub take-letter : (other : ℕ) → IsCoded code set b → letter_cmp code b other ≡ Less → IsLeastLetter code set b (Some other) → IsLeastLetter code set (b + 1) (Some b)
  take-letter other is lower h = (
    is,
    λ letter less coded. elim (cases_lt letter b) [
      | inl low ↦ upto (letter_total code) b other letter (ap is_gt lower) (h.1 letter low coded)
      | inr high ↦ (let same : letter ≡ b = omega (arith, less, high) in same-letter letter same)
    ],
  )

  pub keep-letter : (other : ℕ) → letter_cmp code b other ≢ Less → IsLeastLetter code set b (Some other) → IsLeastLetter code set (b + 1) (Some other)
  keep-letter other never h = (
    h.0,
    λ letter less coded. elim (cases_lt letter b) [
      | inl low ↦ h.1 letter low coded
      | inr high ↦
          let same : letter ≡ b = omega (arith, less, high) in
          subst (λ (x : ℕ). is_gt (letter_cmp code other x) ≡ false) (sym same)
          (ap is_gt ((letter_total code).antisymm other b) ∙ turned (letter_cmp code b other) never)
    ],
  )

-- ---- values

module _ (slot : Slot) (value : Value) (values : List Value) where
  pub first-value : Holds slot value → IsLeastOf slot values None → IsLeastOf slot (values ++ value ∷ []) (Some value)
  first-value is h = (
    is,
    λ v listed held. elim (Contains-push_cases values value v listed) [
      | inl before ↦ absurd (h v before held)
      | inr same ↦ subst (λ (x : Value). is_gt (key_cmp (key_of slot value) (key_of slot x)) ≡ false) same (above-none slot value)
    ],
  )

  pub take-value : (other : Value) → Holds slot value → key_cmp (key_of slot value) (key_of slot other) ≡ Less → IsLeastOf slot values (Some other) → IsLeastOf slot (values ++ value ∷ []) (Some value)
  take-value other is lower h = (
    is,
    λ v listed held. elim (Contains-push_cases values value v listed) [
      | inl before ↦ not_above-trans slot value other v (ap is_gt lower) (h.1 v before held)
      | inr same ↦ subst (λ (x : Value). is_gt (key_cmp (key_of slot value) (key_of slot x)) ≡ false) same (above-none slot value)
    ],
  )

  pub keep-value : (other : Value) → key_cmp (key_of slot value) (key_of slot other) ≢ Less → IsLeastOf slot values (Some other) → IsLeastOf slot (values ++ value ∷ []) (Some other)
  keep-value other never h = (
    h.0,
    λ v listed held. elim (Contains-push_cases values value v listed) [
      | inl before ↦ h.1 v before held
      | inr same ↦
          subst (λ (x : Value). is_gt (key_cmp (key_of slot other) (key_of slot x)) ≡ false) same
          (ap is_gt (key_total.antisymm (key_of slot other) (key_of slot value)) ∙ turned (key_cmp (key_of slot value) (key_of slot other)) never)
    ],
  )
