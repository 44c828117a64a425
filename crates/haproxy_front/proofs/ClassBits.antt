-- A class is told by its members.
use Rattle.std.proofs.Common.{◌≡◌, ℕ, ◌+◌, ◌-◌, ◌<◌, ◌^◌, inl, inr, true, false, cond, ◌==◌, ◌&&◌, ltb, sym, ap, ◌∙◌, arith}
use Rattle.std.specs.Prelude.{min}
use Rattle.std.specs.Int.{bit_at}
use Rattle.std.specs.Int.Bits.{bit_and}
use Rattle.std.proofs.lemmas.Bool.Decides.{nat_tests, leb_tells}
use Rattle.std.proofs.lemmas.Nat.Bits.{bit_at_and, bit_at-lt, bit_at_above, same_from_bits}
use Rattle.lf_core.specs.Class.{is_member}
use Rattle.lf_core.specs.declared.class.Class.{Class}
use Rattle.haproxy_front.specs.Letters.{both}

both-bits : (x y z : ℕ) → x < 2 → y < 2 → z < 2 → (x == 1) ≡ ((y == 1) && (z == 1)) → x ≡ min y z
both-bits x y z f g h e = grind (arith, nat_tests, f, g, h, e)

none-min : (x y : ℕ) → x ≡ 0 → min x y ≡ 0
none-min x y e = omega (arith, e)

abbrev class_of : ℕ → ℕ → Class
class_of low high = record { low = low; high = high }

class-is : (r : Class) (low high : ℕ) → r.low ≡ low → r.high ≡ high → r ≡ class_of low high
class-is r low high e f = ap (λ (n : ℕ). class_of n r.high) e ∙ ap (λ (n : ℕ). class_of low n) f

module _ (a b r : Class) (is : (x : ℕ) → x < 256 → is_member r x ≡ (is_member a x && is_member b x)) where
  low-bit : (i : ℕ) → i < 128 → bit_at r.low i ≡ bit_at (bit_and a.low b.low) i
  low-bit i l =
      let t : ltb i 128 ≡ true = grind (arith, nat_tests, l) in
      let e : cond (ltb i 128) (bit_at r.low i == 1) (bit_at r.high (i - 128) == 1) ≡ (cond (ltb i 128) (bit_at a.low i == 1) (bit_at a.high (i - 128) == 1) && cond (ltb i 128) (bit_at b.low i == 1) (bit_at b.high (i - 128) == 1)) = is i (omega (arith, l)) in
      let q : (bit_at r.low i == 1) ≡ ((bit_at a.low i == 1) && (bit_at b.low i == 1)) = rw t at e in
      both-bits (bit_at r.low i) (bit_at a.low i) (bit_at b.low i) (bit_at-lt r.low i) (bit_at-lt a.low i) (bit_at-lt b.low i) q
      ∙ sym (bit_at_and a.low b.low i)

  high-bit : (i : ℕ) → i < 128 → bit_at r.high i ≡ bit_at (bit_and a.high b.high) i
  high-bit i l =
      let t : ltb (i + 128) 128 ≡ false = grind (arith, nat_tests, l) in
      let s : i + 128 - 128 ≡ i = omega arith in
      let e : cond (ltb (i + 128) 128) (bit_at r.low (i + 128) == 1) (bit_at r.high (i + 128 - 128) == 1) ≡ (cond (ltb (i + 128) 128) (bit_at a.low (i + 128) == 1) (bit_at a.high (i + 128 - 128) == 1) && cond (ltb (i + 128) 128) (bit_at b.low (i + 128) == 1) (bit_at b.high (i + 128 - 128) == 1)) = is (i + 128) (omega (arith, l)) in
      let q : (bit_at r.high i == 1) ≡ ((bit_at a.high i == 1) && (bit_at b.high i == 1)) = rw (t, s) at e in
      both-bits (bit_at r.high i) (bit_at a.high i) (bit_at b.high i) (bit_at-lt r.high i) (bit_at-lt a.high i) (bit_at-lt b.high i) q
      ∙ sym (bit_at_and a.high b.high i)

  low-bits : r.low < 2 ^ 128 → a.low < 2 ^ 128 → (i : ℕ) → bit_at r.low i ≡ bit_at (bit_and a.low b.low) i
  low-bits f g i =
      elim (leb_tells 128 i) [
        | inl k ↦ bit_at_above r.low 128 i f k.1 ∙ sym (bit_at_and a.low b.low i ∙ none-min (bit_at a.low i) (bit_at b.low i) (bit_at_above a.low 128 i g k.1))
        | inr k ↦ low-bit i k.1
      ]

  high-bits : r.high < 2 ^ 128 → a.high < 2 ^ 128 → (i : ℕ) → bit_at r.high i ≡ bit_at (bit_and a.high b.high) i
  high-bits f g i =
      elim (leb_tells 128 i) [
        | inl k ↦ bit_at_above r.high 128 i f k.1 ∙ sym (bit_at_and a.high b.high i ∙ none-min (bit_at a.high i) (bit_at b.high i) (bit_at_above a.high 128 i g k.1))
        | inr k ↦ high-bit i k.1
      ]

  -- the class whose members are those of both
  pub both-is : r.low < 2 ^ 128 → r.high < 2 ^ 128 → a.low < 2 ^ 128 → a.high < 2 ^ 128 → r ≡ both a b
  both-is f g h k =
      let low : r.low ≡ bit_and a.low b.low = same_from_bits r.low (bit_and a.low b.low) (low-bits f h) in
      let high : r.high ≡ bit_and a.high b.high = same_from_bits r.high (bit_and a.high b.high) (high-bits g k) in
      class-is r (bit_and a.low b.low) (bit_and a.high b.high) low high
