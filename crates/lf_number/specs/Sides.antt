-- How the digits of a number stand to those of a bound, digit by digit.
use Rattle.std.proofs.Common.{◌≡◌, ℕ, suc, ◌+◌, ◌-◌, ◌*◌, ◌/◌, ◌%◌, ◌<◌, ◌≤◌, inl, inr, Bool, true, false, cond, ◌==◌, sym, ap, ◌∙◌, arith}
use Rattle.std.proofs.lemmas.Nat.{div-add-mod', row_fits}
use Rattle.std.proofs.lemmas.Bool.Decides.{nat_tests}
use Rattle.lf_number.specs.Digits.{width-push, width-least, width-rises, front-all}
use Rattle.lf_number.specs.Numbers.{IsRadix, width}
use Rattle.lf_number.specs.Machines.{front, comparison, side, push_side, next_side, whole_side}
use Rattle.lf_core.specs.Choices.{below}

pub comparison-greater : (p q : ℕ) → q < p → comparison p q ≡ 2
comparison-greater p q h = grind (arith, nat_tests)

pub comparison-most : (p q : ℕ) → comparison p q ≤ 2
comparison-most p q = grind (arith, nat_tests)

pub comparison-less : (p q : ℕ) → p < q → comparison p q ≡ 0
comparison-less p q h = grind (arith, nat_tests)

pub comparison-same : (p : ℕ) → comparison p p ≡ 1
comparison-same p = grind (arith, nat_tests)

comparison-moved : (m d e : ℕ) → comparison d e ≡ comparison (m + d) (m + e)
comparison-moved m d e = grind (arith, nat_tests)

-- the comparison after one more digit of both numbers
pub comparison-push : (r p digit q : ℕ) → digit < r → push_side (comparison p (q / r)) digit (q % r) ≡ comparison (p * r + digit) q
comparison-push r p digit q h =
    let whole : q / r * r + q % r ≡ q = div-add-mod' q r in
    let few : q % r < r = omega arith in
    elim (below p (q / r)) [
      | inl t ↦
          let f : p * r + r ≤ q / r * r = row_fits p r (q / r) r t.1 (omega arith) in
          rw (comparison-less p (q / r) t.1) (sym (comparison-less (p * r + digit) q (omega arith)))
      | inr t ↦
          elim (below (q / r) p) [
            | inl s ↦
                let f : q / r * r + r ≤ p * r = row_fits (q / r) r p r s.1 (omega arith) in
                rw (comparison-greater p (q / r) s.1) (sym (comparison-greater (p * r + digit) q (omega arith)))
            | inr s ↦
                let e : q / r ≡ p = omega (arith, t.1, s.1) in
                rw (e, comparison-same p) (comparison-moved (p * r) digit (q % r) ∙ ap (λ (m : ℕ). comparison (p * r + digit) m) (ap (λ (x : ℕ). x * r + q % r) (sym e) ∙ whole))
          ]
    ]

chosen : (b : Bool) (x y : ℕ) → x ≤ 2 → y ≤ 2 → cond b x y ≤ 2
chosen true x y h g = h
chosen false x y h g = g

pub push_side-most : (how digit other : ℕ) → how ≤ 2 → push_side how digit other ≤ 2
push_side-most how digit other h = chosen (how == 1) (comparison digit other) how (comparison-most digit other) h

pub side-most : (r m k p : ℕ) → side r m k p ≤ 2
side-most r m k p = comparison-most p (front r m (width r m - k))

pub next_side-most : (r m k how digit : ℕ) → how ≤ 2 → next_side r m k how digit ≤ 2
next_side-most r m k how digit h =
    elim (below k (width r m)) [
      | inl t ↦ rw t.0 (push_side-most how digit (front r m (width r m - (k + 1)) % r) h)
      | inr t ↦ rw t.0 (omega arith)
    ]

pub whole_side-most : (r m k how : ℕ) → how ≤ 2 → whole_side r m k how ≤ 2
whole_side-most r m k how h =
    elim (below k (width r m)) [
      | inl t ↦ rw t.0 (omega arith)
      | inr t ↦ rw t.0 h
    ]

module _ (r : ℕ) (is : IsRadix r) where
  side-start : (m : ℕ) → side r m 0 0 ≡ 1
  side-start m =
      let e : width r m - 0 ≡ width r m = omega arith in
      rw (e, front-all r is m)

  pub side-next : (m k p digit : ℕ) → digit < r → (width r m ≤ k → m < p * r + digit) → next_side r m k (side r m k p) digit ≡ side r m (k + 1) (p * r + digit)
  side-next m k p digit h past =
      elim (below k (width r m)) [
        | inl t ↦
            let e : width r m - k ≡ suc (width r m - (k + 1)) = omega (arith, t.1) in
            rw (t.0, e) (comparison-push r p digit (front r m (width r m - (k + 1))) h)
        | inr t ↦
            let e : width r m - (k + 1) ≡ 0 = omega (arith, t.1) in
            rw (t.0, e) (sym (comparison-greater (p * r + digit) m (past t.1)))
      ]

  -- past the digits of m a number without leading zeros is greater
  pub past-digits : (m p digit : ℕ) → 0 < p → digit < r → width r m ≤ width r p → m < p * r + digit
  past-digits m p digit h g w =
      elim (below m (p * r + digit)) [
        | inl t ↦ t.1
        | inr t ↦ absurd (omega (arith, width-push r is p digit h g, width-rises r is m (p * r + digit) t.1))
      ]

  fewer : (m p : ℕ) → width r p < width r m → p < m
  fewer m p w =
      elim (below p m) [
        | inl t ↦ t.1
        | inr t ↦ absurd (omega (arith, width-rises r is p m t.1))
      ]

  pub side-whole : (m p : ℕ) → whole_side r m (width r p) (side r m (width r p) p) ≡ comparison p m
  side-whole m p =
      elim (below (width r p) (width r m)) [
        | inl t ↦ rw t.0 (sym (comparison-less p m (fewer m p t.1)))
        | inr t ↦
            let e : width r m - width r p ≡ 0 = omega (arith, t.1) in
            rw (t.0, e)
      ]

  pub side-first : (m digit : ℕ) → digit < r → next_side r m 0 1 digit ≡ side r m 1 digit
  side-first m digit h =
      let e : 0 * r + digit ≡ digit = omega arith in
      let n : next_side r m 0 (side r m 0 0) digit ≡ side r m (0 + 1) (0 * r + digit) = side-next m 0 0 digit h (λ w. absurd (omega (arith, width-least r is m))) in
      rw (side-start m, e) at n
