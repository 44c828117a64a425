use Rattle.std.proofs.Common.{◌≡◌, ℕ, ◌+◌, ◌<◌, ◌≤◌, ◌^◌, ◌*◌, ◌%◌, Bool, true, false, cond, leb, ltb, ◌&&◌, ◌==◌, bit_or, bit_and, arith}
use Rattle.std.specs.Int.{w128, bit_at, bit_not}
use Rattle.std.proofs.lemmas.Bool.Decides.{nat_tests}
use Rattle.std.proofs.lemmas.Nat.Bits.{bit_at_set_same, bit_at_set_other, bit_at_clear_same, bit_at_clear_other, bit_at_and, bit_at-lt}

pub set_bit : (n k i : ℕ) → k < 128 → (bit_at (bit_or n (1 * 2 ^ k % 2 ^ 128)) i == 1) ≡ cond (i == k) true (bit_at n i == 1)
set_bit n k i h = grind (arith, nat_tests, bit_at_set_same w128 n k, bit_at_set_other w128 n k)

pub clear_bit : (n k i : ℕ) → k < 128 → i < 128 → (bit_at (bit_and n (bit_not w128 (1 * 2 ^ k % 2 ^ 128))) i == 1) ≡ cond (i == k) false (bit_at n i == 1)
clear_bit n k i h g = grind (arith, nat_tests, bit_at_clear_same w128 n k, bit_at_clear_other w128 n k)

pub both_bits : (a b i : ℕ) → (bit_at (bit_and a b) i == 1) ≡ ((bit_at a i == 1) && (bit_at b i == 1))
both_bits a b i =
    let p = bit_at-lt a i in
    let q = bit_at-lt b i in
    let r = bit_at_and a b i in
    grind (arith, nat_tests, p, q, r)

-- a set that has the members below b, and b too if it is in the range
pub one_more : (x first last b : ℕ) → cond (x == b) (leb first b && leb b last) (ltb x b && (leb first x && leb x last)) ≡ (ltb x (b + 1) && (leb first x && leb x last))
one_more x first last b = grind (arith, nat_tests)

pub every_byte : (x b : ℕ) (y : Bool) → x < 256 → 255 ≤ b → (ltb x (b + 1) && y) ≡ y
every_byte x b y h g = grind (arith, nat_tests)
