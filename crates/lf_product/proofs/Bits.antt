-- Bits of words, and of a set's words.
use Rattle.std.proofs.Common.{◌≡◌, ◌≢◌, ℕ, ◌+◌, ◌*◌, ◌/◌, ◌%◌, ◌^◌, ◌<◌, ◌≤◌, ◌⊎◌, inl, inr, min, List, length, get_or, set, refl, sym, ap, ◌∙◌, subst, arith, bit_and, bit_or, get_or-set_same, get_or-set_other}
use Rattle.std.specs.Int.{bit_at, trailing_zeros}
use mir.Syntax.{w64}
use lib.Dec.{eqb}
use Rattle.std.proofs.Common.{◌||◌, IsTrue, not, Bool, true, false}
use Rattle.std.proofs.lemmas.Bool.Decides.{nat_tests}
use Rattle.std.proofs.lemmas.Nat.{and_le_l}
use Rattle.std.proofs.lemmas.Nat.Bits.{bit_at_and, bit_at-zero, bit_at-trailing_zeros, bit_at-lt, bit_at_set_same, bit_at_set_other}
use Rattle.std.proofs.lemmas.Bool.{cases_eq}
use Rattle.lf_product.specs.declared.byte_set.ByteSet.{ByteSet}
use Rattle.lf_product.specs.ByteSet.{HasByte}

both_one : (a b : ℕ) → a < 2 → b < 2 → min a b ≡ 1 → (a ≡ 1) × (b ≡ 1)
both_one a b h k e = (omega (arith, e), omega (arith, e))

-- two words that share a bit
pub shared_bit : (a b : ℕ) → a < 2 ^ 64 → bit_and a b ≢ 0 → (i : ℕ) × (i < 64) × (bit_at a i ≡ 1) × (bit_at b i ≡ 1)
shared_bit a b small some =
    let le : bit_and a b ≤ a = and_le_l a b in
    let t = bit_at-trailing_zeros w64 (bit_and a b) (omega (arith, some)) (omega (arith, le, small)) in
    let i : ℕ = trailing_zeros w64 (bit_and a b) in
    let p = both_one (bit_at a i) (bit_at b i) (bit_at-lt a i) (bit_at-lt b i) (sym (bit_at_and a b i) ∙ t.1) in
    (i, t.0, p.0, p.1)

pub no_shared_bit : (a b i : ℕ) → bit_and a b ≡ 0 → bit_at a i ≡ 1 → bit_at b i ≡ 1 → ⊥
no_shared_bit a b i none ha hb =
    let e : min (bit_at a i) (bit_at b i) ≡ 0 = sym (bit_at_and a b i) ∙ ap (λ n. bit_at n i) none ∙ bit_at-zero i in
    omega (arith, e, ha, hb)

pub some_bit_from_test : (n : ℕ) → IsTrue (not (eqb n 0)) → n ≢ 0
some_bit_from_test n t e = let t' : IsTrue (not (eqb 0 0)) = subst (λ (k : ℕ). IsTrue (not (eqb k 0))) e t in absurd (cc)

pub test_from_some_bit : (n : ℕ) → n ≢ 0 → IsTrue (not (eqb n 0))
test_from_some_bit n h = grind (arith, nat_tests)

-- the words of a set, one written
pub has_written : (words : List ℕ) (n : ℕ) → length words ≡ 4 → n < 256 → (b : ℕ) →
    (b ≡ n) ⊎ (bit_at (get_or (set words (n / 64) (bit_or (get_or words (n / 64) 0) (1 * 2 ^ (n % 64) % 2 ^ 64))) (b / 64) 0) (b % 64) ≡ bit_at (get_or words (b / 64) 0) (b % 64))
has_written words n four small b =
    elim (cases_eq (b / 64) (n / 64)) [
      | inl e ↦ elim (cases_eq (b % 64) (n % 64)) [
        | inl f ↦ inl (omega (arith, e, f))
        | inr f ↦
            let put : get_or (set words (n / 64) (bit_or (get_or words (n / 64) 0) (1 * 2 ^ (n % 64) % 2 ^ 64))) (n / 64) 0 ≡ bit_or (get_or words (n / 64) 0) (1 * 2 ^ (n % 64) % 2 ^ 64) = get_or-set_same words (n / 64) _ 0 (omega (arith, four)) in
            let other : bit_at (bit_or (get_or words (n / 64) 0) (1 * 2 ^ (n % 64) % 2 ^ 64)) (b % 64) ≡ bit_at (get_or words (n / 64) 0) (b % 64) = bit_at_set_other w64 (get_or words (n / 64) 0) (n % 64) (omega arith) (b % 64) f in
            inr (rw (e, put) other)
      ]
      | inr e ↦ inr (ap (λ (w : ℕ). bit_at w (b % 64)) (get_or-set_other words (n / 64) (b / 64) _ 0 e))
    ]

pub has_new : (words : List ℕ) (n : ℕ) → length words ≡ 4 → n < 256 → bit_at (get_or (set words (n / 64) (bit_or (get_or words (n / 64) 0) (1 * 2 ^ (n % 64) % 2 ^ 64))) (n / 64) 0) (n % 64) ≡ 1
has_new words n four small =
    let put : get_or (set words (n / 64) (bit_or (get_or words (n / 64) 0) (1 * 2 ^ (n % 64) % 2 ^ 64))) (n / 64) 0 ≡ bit_or (get_or words (n / 64) 0) (1 * 2 ^ (n % 64) % 2 ^ 64) = get_or-set_same words (n / 64) _ 0 (omega (arith, four)) in
    rw put (bit_at_set_same w64 (get_or words (n / 64) 0) (n % 64) (omega arith))

pub or_cases : (p q : Bool) → (p || q) ≡ true → (p ≡ true) ⊎ (q ≡ true)
or_cases true q h = inl refl
or_cases false q h = inr h

pub or_left : (p q : Bool) → p ≡ true → (p || q) ≡ true
or_left p q h = rw h refl

pub or_right : (p q : Bool) → q ≡ true → (p || q) ≡ true
or_right true q h = refl
or_right false q h = h

-- a bit in two words is a byte in both sets
pub byte_from_bit : (s t : ByteSet) (k i : ℕ) → k < 4 → i < 64 → bit_at (get_or s.words k 0) i ≡ 1 → bit_at (get_or t.words k 0) i ≡ 1 → (x : ℕ) × (x < 256) × HasByte s x × HasByte t x
unfolding HasByte
byte_from_bit s t k i hk hi hs ht =
    let q : (64 * k + i) / 64 ≡ k = omega arith in
    let r : (64 * k + i) % 64 ≡ i = omega arith in
    (64 * k + i, omega arith, rw (q, r) hs, rw (q, r) ht)

-- a byte of both sets is a bit in two words
pub bit_from_byte : (s : ByteSet) (x k : ℕ) → x / 64 ≡ k → HasByte s x → bit_at (get_or s.words k 0) (x % 64) ≡ 1
unfolding HasByte
bit_from_byte s x k e h = rw (← e) h

pub four_words : (x : ℕ) → x < 256 → (x / 64 ≡ 0) ⊎ ((x / 64 ≡ 1) ⊎ ((x / 64 ≡ 2) ⊎ (x / 64 ≡ 3)))
four_words x h =
    elim (cases_eq (x / 64) 0) [
      | inl e ↦ inl e
      | inr n0 ↦
          elim (cases_eq (x / 64) 1) [
            | inl e ↦ inr (inl e)
            | inr n1 ↦
                elim (cases_eq (x / 64) 2) [ inl e ↦ inr (inr (inl e)) | inr n2 ↦ inr (inr (inr (omega (arith, n0, n1, n2)))) ]
          ]
    ]
