-- The search for a month, a step at a time.
use Rattle.std.proofs.Common.{◌≡◌, ℕ, suc, ◌+◌, ◌-◌, ◌<◌, ◌≤◌, None, Some, Bool, true, false, cond, refl, ap, ◌∙◌, arith}
use Rattle.lf_layout.specs.Names.{first_month}

abbrev Begins : (ℕ → Bool) → ℕ → ℕ → Type 0
Begins test count at = first_month test (suc count) at ≡ cond (test at) (Some at) (first_month test count (at + 1))

begins : (test : ℕ → Bool) (count at : ℕ) → Begins test count at
unfolding first_month
begins test count at = refl

-- a month that fails is passed over
pub first_month-next : (test : ℕ → Bool) (at : ℕ) → at < 12 → test at ≡ false → first_month test (12 - at) at ≡ first_month test (12 - (at + 1)) (at + 1)
first_month-next test at h f =
    let e : 12 - at ≡ suc (12 - (at + 1)) = omega arith in
    ap (λ (k : ℕ). first_month test k at) e ∙ begins test (12 - (at + 1)) at ∙ ap (λ (b : Bool). cond b (Some at) (first_month test (12 - (at + 1)) (at + 1))) f

-- and one that passes is found
pub first_month-here : (test : ℕ → Bool) (at : ℕ) → at < 12 → test at ≡ true → first_month test (12 - at) at ≡ Some at
first_month-here test at h t =
    let e : 12 - at ≡ suc (12 - (at + 1)) = omega arith in
    ap (λ (k : ℕ). first_month test k at) e ∙ begins test (12 - (at + 1)) at ∙ ap (λ (b : Bool). cond b (Some at) (first_month test (12 - (at + 1)) (at + 1))) t

pub first_month-none : (test : ℕ → Bool) (at : ℕ) → 12 ≤ at → first_month test (12 - at) at ≡ None
unfolding first_month
first_month-none test at h = let e : 12 - at ≡ 0 = omega arith in ap (λ (k : ℕ). first_month test k at) e
