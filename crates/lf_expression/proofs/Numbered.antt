-- Elements by their numbers, counted from 1.
use Rattle.std.proofs.Common.{◌≡◌, ℕ, zero, suc, ◌-◌, ◌<◌, ◌≤◌, List, length, get_or, refl, sym, ap, ◌∙◌, arith}
use Rattle.std.specs.Prelude.{None, Some}
use Rattle.std.proofs.lemmas.Option.{slice_get-get_or, slice_get_past}
use Rattle.lf_expression.specs.Values.{nth}

module _ {A : Type 0} where
  pub nth_read : (xs : List A) (k : ℕ) (x : A) → 1 ≤ k → k ≤ length xs → x ≡ get_or xs (k - 1) x → nth k xs ≡ Some x
  nth_read xs zero x h l e = absurd (omega (arith, h))
  nth_read xs (suc n) x h l e =
      let i : suc n - 1 ≡ n = omega arith in
      slice_get-get_or xs n x (omega (arith, l)) ∙ ap (λ (y : A). Some y) (sym (e ∙ ap (λ (j : ℕ). get_or xs j x) i))

  pub nth_past : (xs : List A) (k : ℕ) → length xs < k → nth k xs ≡ None
  nth_past xs zero h = absurd (omega (arith, h))
  nth_past xs (suc n) h = slice_get_past xs n (omega (arith, h))

pub at_least_one : (k : ℕ) → (k ≡ 0 → ⊥) → 1 ≤ k
at_least_one zero h = absurd (h refl)
at_least_one (suc n) h = omega arith

pub fits_below : {n : ℕ} (m k : ℕ) → m ≡ n → k ≤ m → k ≤ n
fits_below m k e h = omega (arith, e, h)
