-- Plain texts by what is printed for them: the lesser line first, and of equal lines the lesser text.
use Rattle.std.proofs.Common.{◌≡◌, ℕ, zero, suc, ◌≤◌, ◌⊎◌, inl, inr, List, [], ◌∷◌, ◌++◌, length, false, nat_cmp, refl, ap, subst, ◌∙◌, arith, replicate, All}
use Rattle.std.proofs.lemmas.List.Elements.{All-head, All-tail}
use Rattle.std.specs.Ordering.{is_gt}
use Rattle.lf_escape.specs.Codes.{coded}
use Rattle.lf_gen.specs.First.{bytes_cmp, LineLt, Before}
use Rattle.lf_gen.proofs.Orders.{bytes-same, LineUpTo, lt-up_to, after-front, none-up_to, then-not_above}

module _ (word : ℕ → List ℕ) where
  -- The letter's word is less, or it is the same and the letter isn't above the other.
  abbrev pub LetterBefore : ℕ → ℕ → Type 0
  LetterBefore b c = LineLt (word b) (word c) ⊎ ((word b ≡ word c) × (is_gt (nat_cmp b c) ≡ false))

  pub before-same : (p : List ℕ) → Before word p p
  before-same p = inr (refl, ap is_gt (bytes-same p))

  before-line : (p t : List ℕ) → Before word p t → LineUpTo (coded word p) (coded word t)
  before-line p t (inl h) = inl h
  before-line p t (inr h) = inr h.0

  pub none-before : (t : List ℕ) → Before word [] t
  none-before [] = inr (refl, refl)
  none-before (c ∷ t) = elim (none-up_to (coded word (c ∷ t))) [
    | inl less ↦ inl less
    | inr same ↦ inr (same, refl)
  ]

  pub before-cons : (b c : ℕ) (p t : List ℕ) → LetterBefore b c → Before word p t → Before word (b ∷ p) (c ∷ t)
  before-cons b c p t (inl less) h = inl (lt-up_to (word b) (word c) (coded word p) (coded word t) less (before-line p t h))
  before-cons b c p t (inr same) (inl less) =
      inl (subst (λ (w : List ℕ). LineLt (word b ++ coded word p) (w ++ coded word t)) same.0 (after-front (word b) (coded word p) (coded word t) less))
  before-cons b c p t (inr same) (inr h) =
      inr (
        ap (λ (w : List ℕ). w ++ coded word p) same.0 ∙ ap (λ (x : List ℕ). word c ++ x) h.0,
        then-not_above (nat_cmp b c) (bytes_cmp p t) same.1 h.1,
      )

  -- Of texts with so many letters or more, that of the least letter so many times is the first.
  pub repeated-before : (b count : ℕ) (t : List ℕ) → All (LetterBefore b) t → count ≤ length t → Before word (replicate count b) t
  repeated-before b zero t all h = none-before t
  repeated-before b (suc count) [] all h = absurd (omega (arith, h))
  repeated-before b (suc count) (c ∷ t) all h =
      before-cons b c (replicate count b) t (All-head (LetterBefore b) c t all)
      (repeated-before b count t (All-tail (LetterBefore b) c t all) (omega (arith, h)))
