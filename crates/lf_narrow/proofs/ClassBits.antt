-- A class is told by its members.
use Rattle.std.proofs.Common.{◌≡◌, ℕ, zero, suc, ◌+◌, ◌-◌, ◌*◌, ◌/◌, ◌<◌, ◌≤◌, ◌^◌, inl, inr, Bool, true, false, cond, ◌==◌, ltb, refl, sym, ap, ◌∙◌, arith}
use Rattle.std.specs.Int.{bit_at}
use Rattle.std.proofs.lemmas.Bool.Decides.{nat_tests}
use Rattle.std.proofs.lemmas.Bool.{cases_lt}
use Rattle.std.proofs.lemmas.Nat.Bits.{bit_at-lt, bit_at_lowest, bit_at-suc, same_from_bits_below}
use Rattle.lf_core.specs.Class.{is_member}
use Rattle.lf_core.specs.declared.class.Class.{Class}
use Rattle.lf_narrow.specs.Classes.{bits_of, class_of}

abbrev one_if : Bool → ℕ
one_if t = cond t 1 0

half : (t : Bool) (m : ℕ) → (one_if t + 2 * m) / 2 ≡ m
half true m = omega arith
half false m = omega arith

odd : (t : Bool) (m : ℕ) → bit_at (one_if t + 2 * m) 0 ≡ one_if t
odd true m = bit_at_lowest (1 + 2 * m) ∙ omega arith
odd false m = bit_at_lowest (0 + 2 * m) ∙ omega arith

-- the bits of the number are the test's answers
pub bits_are : (test : ℕ → Bool) (first n i : ℕ) → i < n → bit_at (bits_of test first n) i ≡ one_if (test (first + i))
unfolding bits_of
bits_are test first zero i h = absurd (omega arith)
bits_are test first (suc n) zero h = odd (test first) (bits_of test (first + 1) n) ∙ ap (λ (k : ℕ). one_if (test k)) (omega arith)
bits_are test first (suc n) (suc i) h =
    bit_at-suc (one_if (test first) + 2 * bits_of test (first + 1) n) i
    ∙ ap (λ (k : ℕ). bit_at k i) (half (test first) (bits_of test (first + 1) n))
    ∙ bits_are test (first + 1) n i (omega arith)
    ∙ ap (λ (k : ℕ). one_if (test k)) (omega arith)

double : (t : Bool) (m p : ℕ) → m < p → one_if t + 2 * m < 2 * p
double true m p h = omega arith
double false m p h = omega arith

power : (n : ℕ) → 2 ^ suc n ≡ 2 * 2 ^ n
power n = grind arith

pub bits_below : (test : ℕ → Bool) (first n : ℕ) → bits_of test first n < 2 ^ n
unfolding bits_of
bits_below test first zero = omega arith
bits_below test first (suc n) = rw (power n) (double (test first) (bits_of test (first + 1) n) (2 ^ n) (bits_below test (first + 1) n))

bit_is : (x : ℕ) (t : Bool) → x < 2 → (x == 1) ≡ t → x ≡ one_if t
bit_is x true h e = grind (arith, nat_tests, h, e)
bit_is x false h e = grind (arith, nat_tests, h, e)

class-is : (r : Class) (low high : ℕ) → r.low ≡ low → r.high ≡ high → r ≡ record { low = low; high = high }
class-is r low high e f =
    let made : ℕ → ℕ → Class = λ a b. record { low = a; high = b } in
    ap (λ (n : ℕ). made n r.high) e ∙ ap (λ (n : ℕ). made low n) f

module _ (r : Class) (test : ℕ → Bool) (is : (x : ℕ) → x < 256 → is_member r x ≡ test x) where
  low-bit : (i : ℕ) → i < 128 → bit_at r.low i ≡ bit_at (bits_of test 0 128) i
  low-bit i h =
      let t : ltb i 128 ≡ true = grind (arith, nat_tests, h) in
      let e : cond (ltb i 128) (bit_at r.low i == 1) (bit_at r.high (i - 128) == 1) ≡ test i = is i (omega (arith, h)) in
      let q : (bit_at r.low i == 1) ≡ test i = rw t at e in
      bit_is (bit_at r.low i) (test i) (bit_at-lt r.low i) q ∙ sym (bits_are test 0 128 i h ∙ ap (λ (k : ℕ). one_if (test k)) (omega arith))

  high-bit : (i : ℕ) → i < 128 → bit_at r.high i ≡ bit_at (bits_of test 128 128) i
  high-bit i h =
      let t : ltb (128 + i) 128 ≡ false = grind (arith, nat_tests, h) in
      let s : 128 + i - 128 ≡ i = omega arith in
      let e : cond (ltb (128 + i) 128) (bit_at r.low (128 + i) == 1) (bit_at r.high (128 + i - 128) == 1) ≡ test (128 + i) = is (128 + i) (omega (arith, h)) in
      let q : (bit_at r.high i == 1) ≡ test (128 + i) = rw (t, s) at e in
      bit_is (bit_at r.high i) (test (128 + i)) (bit_at-lt r.high i) q ∙ sym (bits_are test 128 128 i h)

  -- THE CLASS of two words whose members are those that pass the test
  pub class_told : r.low < 2 ^ 128 → r.high < 2 ^ 128 → r ≡ class_of test
  class_told f g =
      let low : r.low ≡ bits_of test 0 128 = same_from_bits_below 128 r.low (bits_of test 0 128) f (bits_below test 0 128) low-bit in
      let high : r.high ≡ bits_of test 128 128 = same_from_bits_below 128 r.high (bits_of test 128 128) g (bits_below test 128 128) high-bit in
      class-is r (bits_of test 0 128) (bits_of test 128 128) low high

-- the class that is made of a test has its members
module _ (test : ℕ → Bool) where
  is_one : (t : Bool) → (one_if t == 1) ≡ t
  is_one true = refl
  is_one false = refl

  low-member : (x : ℕ) → x < 128 → is_member (class_of test) x ≡ test x
  low-member x h =
      let t : ltb x 128 ≡ true = grind (arith, nat_tests, h) in
      ap (λ (y : Bool). cond y (bit_at (bits_of test 0 128) x == 1) (bit_at (bits_of test 128 128) (x - 128) == 1)) t
      ∙ ap (λ (k : ℕ). k == 1) (bits_are test 0 128 x h)
      ∙ is_one (test (0 + x)) ∙ ap test (omega arith)

  high-member : (x : ℕ) → 128 ≤ x → x < 256 → is_member (class_of test) x ≡ test x
  high-member x h k =
      let t : ltb x 128 ≡ false = grind (arith, nat_tests, h) in
      ap (λ (y : Bool). cond y (bit_at (bits_of test 0 128) x == 1) (bit_at (bits_of test 128 128) (x - 128) == 1)) t
      ∙ ap (λ (k : ℕ). k == 1) (bits_are test 128 128 (x - 128) (omega (arith, h, k)))
      ∙ is_one (test (128 + (x - 128))) ∙ ap test (omega (arith, h))

  pub has_members : (x : ℕ) → x < 256 → is_member (class_of test) x ≡ test x
  has_members x h = elim (cases_lt x 128) [ inl low ↦ low-member x low | inr high ↦ high-member x high h ]

-- tests that agree on bytes have one class
pub bits-same : (f g : ℕ → Bool) (first n : ℕ) → ((x : ℕ) → x < first + n → f x ≡ g x) → bits_of f first n ≡ bits_of g first n
unfolding bits_of
bits-same f g first zero h = refl
bits-same f g first (suc n) h =
    ap (λ (t : Bool). one_if t + 2 * bits_of f (first + 1) n) (h first (omega arith))
    ∙ ap (λ (m : ℕ). one_if (g first) + 2 * m) (bits-same f g (first + 1) n (λ x l. h x (omega (arith, l))))

pub class-same : (f g : ℕ → Bool) → ((x : ℕ) → x < 256 → f x ≡ g x) → class_of f ≡ class_of g
class-same f g h =
    class-is (class_of f) (bits_of g 0 128) (bits_of g 128 128) (bits-same f g 0 128 (λ x l. h x (omega (arith, l)))) (bits-same f g 128 128 (λ x l. h x (omega (arith, l))))
