-- Bytes that have been passed over in a loop.
use Rattle.std.proofs.Common.{◌≡◌, ℕ, ◌+◌, ◌<◌, ◌≤◌, inl, inr, Bool, true, false, ◌==◌, ◌&&◌, ◌||◌, ltb, leb, not, refl, sym, subst, arith}
use Rattle.std.proofs.lemmas.Bool.{cases_eq}
use Rattle.std.proofs.lemmas.Bool.Decides.{nat_tests}

-- a byte is below the next number where it is below this one, or this one
below_next : (x b : ℕ) → (x ≡ b → ⊥) → ltb x (b + 1) ≡ ltb x b
below_next x b h = grind (arith, nat_tests)

is_next : (b : ℕ) → ltb b (b + 1) ≡ true
is_next b = grind (arith, nat_tests)

isnt_below : (b : ℕ) → ltb b b ≡ false
isnt_below b = grind (arith, nat_tests)

same : (b : ℕ) → (b == b) ≡ true
same b = grind (arith, nat_tests)

apart : (x b : ℕ) → (x ≡ b → ⊥) → (x == b) ≡ false
apart x b h = grind (arith, nat_tests)

pub or_false : (m : Bool) → (m || false) ≡ m
or_false true = refl
or_false false = refl

and_true : (m : Bool) → (m && not false) ≡ m
and_true true = refl
and_true false = refl

put_in : (m w : Bool) → ((m || (false && w)) || (true && w)) ≡ (m || (true && w))
put_in true w = refl
put_in false w = refl

took_out : (w : Bool) → (not (false && w) && not (true && w)) ≡ not (true && w)
took_out w = refl

module _ (test : ℕ → Bool) (x b : ℕ) where
  abbrev With : Bool → Bool → Bool → Bool → Type 0
  With m low here next = ((m || (low && test x)) || (here && test b)) ≡ (m || (next && test x))

  pub more_in : (m : Bool) → ((m || (ltb x b && test x)) || ((x == b) && test b)) ≡ (m || (ltb x (b + 1) && test x))
  more_in m = elim (cases_eq x b) [
    | inl e ↦ subst (λ (y : ℕ). ((m || (ltb y b && test y)) || ((y == b) && test b)) ≡ (m || (ltb y (b + 1) && test y))) (sym e)
        (rw (isnt_below b, same b, is_next b) (put_in m (test b)))
    | inr n ↦ rw (apart x b n, below_next x b n) (or_false (m || (ltb x b && test x)))
  ]

  pub more_out : (not (ltb x b && test x) && not ((x == b) && test b)) ≡ not (ltb x (b + 1) && test x)
  more_out = elim (cases_eq x b) [
    | inl e ↦ subst (λ (y : ℕ). (not (ltb y b && test y) && not ((y == b) && test b)) ≡ not (ltb y (b + 1) && test y)) (sym e)
        (rw (isnt_below b, same b, is_next b) (took_out (test b)))
    | inr n ↦ rw (apart x b n, below_next x b n) (and_true (not (ltb x b && test x)))
  ]

pub all_below : (x b : ℕ) → x < 256 → 255 ≤ b → ltb x (b + 1) ≡ true
all_below x b h k = grind (arith, nat_tests, h, k)

pub none_between : (x : ℕ) → (leb 1 x && leb x 0) ≡ false
none_between x = grind (arith, nat_tests)
