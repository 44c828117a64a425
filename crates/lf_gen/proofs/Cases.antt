-- What a comparison of numbers or of texts says.
use Rattle.std.proofs.Common.{◌≡◌, ℕ, ◌<◌, ◌⊎◌, inl, inr, List, [], ◌∷◌, length, false, Ordering, Less, Equal, Greater, nat_cmp, refl, sym, ap, ◌∙◌}
use Rattle.std.specs.Ordering.{ordering_then, is_gt, MatchOrdering}
use Rattle.std.proofs.lemmas.Cmp.{ranked}
use Rattle.lf_gen.specs.First.{bytes_cmp}
use Rattle.lf_gen.specs.Compared.{line_cmp}
use Rattle.lf_machine.specs.RecordOrder.{IsTextLess}
use Rattle.lf_product.specs.Walk.{NotAbove, LineLe}

-- The cases of two numbers, with what their comparison is.
pub record Below (x y : ℕ) : Type 0 where
  pub less : x < y
  pub is : nat_cmp x y ≡ Less

pub record Same (x y : ℕ) : Type 0 where
  pub same : x ≡ y
  pub is : nat_cmp x y ≡ Equal

pub record Above (x y : ℕ) : Type 0 where
  pub more : y < x
  pub is : nat_cmp x y ≡ Greater

by_order : (x y : ℕ) (o : Ordering) → nat_cmp x y ≡ o → MatchOrdering o (x < y) (x ≡ y) (y < x) → Below x y ⊎ Same x y ⊎ Above x y
by_order x y Less e m = inl (record { less = m; is = e })
by_order x y Equal e m = inr (inl (record { same = m; is = e }))
by_order x y Greater e m = inr (inr (record { more = m; is = e }))

pub nat-cases : (x y : ℕ) → Below x y ⊎ Same x y ⊎ Above x y
nat-cases x y = by_order x y (nat_cmp x y) refl (ranked x y (nat_cmp x y) refl)

-- the first of two comparisons isn't greater where both together aren't
pub then-first : (p q : Ordering) → is_gt (ordering_then p q) ≡ false → is_gt p ≡ false
then-first Less q h = refl
then-first Equal q h = refl
then-first Greater q h = h

-- neither is the second, where the first finds no difference
pub then-second : (p q : Ordering) → is_gt (ordering_then p q) ≡ false → p ≡ Equal → is_gt q ≡ false
then-second p q h e = ap (λ (o : Ordering). is_gt (ordering_then o q)) (sym e) ∙ h

on-cons : (x y : ℕ) (q : Ordering) (a b : List ℕ) → (is_gt q ≡ false → NotAbove a b) → is_gt (ordering_then (nat_cmp x y) q) ≡ false → NotAbove (x ∷ a) (y ∷ b)
on-cons x y q a b more h = elim (nat-cases x y) [
  | inl below ↦ inl below.less
  | inr (inl same) ↦ inr (same.same, more (then-second (nat_cmp x y) q h same.is))
  | inr (inr above) ↦ absurd (let bad = sym (ap (λ (o : Ordering). is_gt (ordering_then o q)) above.is) ∙ h in cc)
]

pub bytes-not_above : (a b : List ℕ) → is_gt (bytes_cmp a b) ≡ false → NotAbove a b
bytes-not_above [] b h = tt
bytes-not_above (x ∷ a) [] h = absurd (cc)
bytes-not_above (x ∷ a) (y ∷ b) h = on-cons x y (bytes_cmp a b) a b (bytes-not_above a b) h

less-cons : (x y : ℕ) (q : Ordering) (a b : List ℕ) → (q ≡ Less → IsTextLess a b) → ordering_then (nat_cmp x y) q ≡ Less → IsTextLess (x ∷ a) (y ∷ b)
less-cons x y q a b more h = elim (nat-cases x y) [
  | inl below ↦ inl below.less
  | inr (inl same) ↦ inr (same.same, more (ap (λ (o : Ordering). ordering_then o q) (sym same.is) ∙ h))
  | inr (inr above) ↦ absurd (let bad = ap (λ (o : Ordering). ordering_then o q) (sym above.is) ∙ h in cc)
]

pub bytes-less : (a b : List ℕ) → bytes_cmp a b ≡ Less → IsTextLess a b
bytes-less [] [] h = absurd (cc)
bytes-less [] (y ∷ b) h = tt
bytes-less (x ∷ a) [] h = absurd (cc)
bytes-less (x ∷ a) (y ∷ b) h = less-cons x y (bytes_cmp a b) a b (bytes-less a b) h

equal-cons : (x y : ℕ) (q : Ordering) (a b : List ℕ) → (q ≡ Equal → a ≡ b) → ordering_then (nat_cmp x y) q ≡ Equal → (x ∷ a) ≡ (y ∷ b)
equal-cons x y q a b more h = elim (nat-cases x y) [
  | inl below ↦ absurd (let bad = ap (λ (o : Ordering). ordering_then o q) (sym below.is) ∙ h in cc)
  | inr (inl same) ↦
      let rest = more (ap (λ (o : Ordering). ordering_then o q) (sym same.is) ∙ h) in
      ap (λ (n : ℕ). n ∷ a) same.same ∙ ap (λ (c : List ℕ). y ∷ c) rest
  | inr (inr above) ↦ absurd (let bad = ap (λ (o : Ordering). ordering_then o q) (sym above.is) ∙ h in cc)
]

pub bytes-equal : (a b : List ℕ) → bytes_cmp a b ≡ Equal → a ≡ b
bytes-equal [] [] h = refl
bytes-equal [] (y ∷ b) h = absurd (cc)
bytes-equal (x ∷ a) [] h = absurd (cc)
bytes-equal (x ∷ a) (y ∷ b) h = equal-cons x y (bytes_cmp a b) a b (bytes-equal a b) h

pub line-not_above : (a b : List ℕ) → is_gt (line_cmp a b) ≡ false → LineLe a b
line-not_above a b h = elim (nat-cases (length a) (length b)) [
  | inl below ↦ inl below.less
  | inr (inl same) ↦ inr (same.same, bytes-not_above a b (then-second (nat_cmp (length a) (length b)) (bytes_cmp a b) h same.is))
  | inr (inr above) ↦ absurd (let bad = sym (ap (λ (o : Ordering). is_gt (ordering_then o (bytes_cmp a b))) above.is) ∙ h in cc)
]
