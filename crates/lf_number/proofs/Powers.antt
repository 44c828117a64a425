-- How many digits a number has, by the powers of the radix that are not above it.
use Rattle.std.proofs.Common.{◌≡◌, ◌∙◌, ℕ, zero, suc, ◌+◌, ◌-◌, ◌*◌, ◌/◌, ◌%◌, ◌<◌, ◌≤◌, ◌^◌, sym, ap, arith}
use Rattle.std.proofs.Math.Nat.{pow-suc, one-le-pow, div-mul-le_self}
use Rattle.std.proofs.lemmas.Nat.{div-add-mod', le-div, mul-le, row_fits}
use Rattle.lf_number.specs.Numbers.{IsRadix, width}
use Rattle.lf_number.specs.Digits.{width-more, width-least, width-most}

module _ (r : ℕ) (is : IsRadix r) where
  width-from : (k n : ℕ) → r ^ k ≤ n → suc k ≤ width r n
  width-from zero n h = width-least r is n
  width-from (suc k) n h =
      let m : r ^ k * r ≤ n = rw (pow-suc r k) at h in
      let one : 1 ≤ r ^ k = one-le-pow k r (omega (arith, is.least)) in
      let o : 1 * r ≤ r ^ k * r = mul-le 1 r (r ^ k) r one (omega arith) in
      let g : r ≤ n = omega (arith, m, o) in
      let q : r ^ k ≤ n / r = le-div (r ^ k) n r (omega (arith, is.least)) m in
      omega (arith, width-more r is n g, width-from k (n / r) q)

  module _ (n digits power : ℕ) (power_is : power ≡ r ^ (digits - 1)) (least : 1 ≤ digits) where
    power-next : r ^ suc (digits - 1) ≡ power * r
    power-next = pow-suc r (digits - 1) ∙ ap (λ (p : ℕ). p * r) (sym power_is)

    pub next-power : power * r ≡ r ^ ((digits + 1) - 1)
    next-power = let e : (digits + 1) - 1 ≡ suc (digits - 1) = omega arith in rw e (sym power-next)

    pub one-more : power ≤ n / r → digits + 1 ≤ width r n
    one-more h =
        let m : power * r ≤ n / r * r = mul-le power r (n / r) r h (omega arith) in
        let d : n / r * r ≤ n = div-mul-le_self n r in
        let f : r ^ suc (digits - 1) ≤ n = rw power-next (omega (arith, m, d)) in
        omega (arith, width-from (suc (digits - 1)) n f)

    pub no-more : n / r < power → width r n ≤ digits
    no-more h =
        let m : n / r * r + r ≤ power * r = row_fits (n / r) r power r h (omega arith) in
        let whole : n / r * r + n % r ≡ n = div-add-mod' n r in
        let few : n % r < r = omega (arith, is.least) in
        let f : n < r ^ suc (digits - 1) = rw power-next (omega (arith, m, whole, few)) in
        omega (arith, width-most r is (digits - 1) n f)
