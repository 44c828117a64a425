-- The points of numbers that are not negative, and then those of negative ones.
use Rattle.std.proofs.Common.{◌≡◌, ◌∙◌, ap, ℕ, ◌-◌, ◌<◌, ◌≤◌, inl, inr, Option, Bool, true, false, cond, ltb, sym, to_z, of_z, arith}
use Rattle.std.specs.Prelude.{ℤ, pos, negsuc, FitsSigned}
use Rattle.std.specs.Int.{w64}
use Rattle.std.proofs.lemmas.Int.{to_z-of_z}
use lib.Signed.{le_z}
use Rattle.std.proofs.lemmas.Bool.Decides.{nat_tests}
use Rattle.std.proofs.lemmas.Bool.{cases_Bool}
use Rattle.lf_number.specs.Numbers.{digit_of, magnitude, half_points, number_size}
use Rattle.lf_number.specs.Machines.{sign_base, number_digit, number_next, number_done, number_ends}
use Rattle.lf_number.proofs.ReadBack.{magnitude-fits}
use Rattle.lf_number.specs.Digits.{ten, width-u64}

half-most : (lo hi : ℤ) → FitsSigned w64 lo → FitsSigned w64 hi → half_points lo hi ≤ 182
half-most lo hi f g =
    omega (arith, width-u64 10 ten (magnitude lo) (omega (arith, magnitude-fits lo f)), width-u64 10 ten (magnitude hi) (omega (arith, magnitude-fits hi g)))

not-negative : (k : ℕ) → le_z (pos 0) (negsuc k) ≡ true → ⊥
not-negative k t = cc

pub positive-few : (lo hi : ℤ) → FitsSigned w64 lo → FitsSigned w64 hi → (point : ℕ) → le_z (pos 0) (to_z w64 (of_z w64 lo)) ≡ true → point < number_size lo hi → point - 0 ≤ 182
positive-few (pos k) hi f g point t h = let m = half-most (pos k) hi f g in omega (arith, m, h)
positive-few (negsuc k) hi f g point t h =
    absurd (not-negative k (ap (λ (z : ℤ). le_z (pos 0) z) (sym (to_z-of_z w64 (negsuc k) f)) ∙ t))

-- what is asked of the points of one sign, asked of the point's sign
by-sign : {A : Type 0} (lo hi : ℤ) (point : ℕ) (f : ℕ → Bool → ℕ → A) → f (sign_base lo hi point) (ltb 0 (sign_base lo hi point)) (point - sign_base lo hi point) ≡ cond (ltb point (half_points lo hi)) (f 0 false point) (f (half_points lo hi) true (point - half_points lo hi))
by-sign lo hi point f =
    let t : ltb 0 (half_points lo hi) ≡ true = grind (arith, nat_tests) in
    let e : point - 0 ≡ point = omega arith in
    elim (cases_Bool (ltb point (half_points lo hi))) [
      | inl b ↦ rw (b, e)
      | inr b ↦ rw (b, t)
    ]

pub next-by-sign : (lo hi : ℤ) (point letter digit base : ℕ) (after : Option ℕ) → digit ≡ digit_of letter → digit < 10 → base ≡ sign_base lo hi point → after ≡ number_digit lo hi base (ltb 0 base) (point - base) digit → after ≡ number_next lo hi point letter
next-by-sign lo hi point letter digit base after d few b e =
    let t : ltb (digit_of letter) 10 ≡ true = grind (arith, nat_tests) in
    let n : number_digit lo hi base (ltb 0 base) (point - base) digit ≡ number_digit lo hi (sign_base lo hi point) (ltb 0 (sign_base lo hi point)) (point - sign_base lo hi point) (digit_of letter) = rw (b, d) in
    e ∙ n ∙ by-sign lo hi point (λ (x : ℕ) (negative : Bool) (at : ℕ). number_digit lo hi x negative at (digit_of letter)) ∙ rw t

pub ends-by-sign : (lo hi : ℤ) (point base : ℕ) (is : Bool) → base ≡ sign_base lo hi point → is ≡ number_done lo hi (ltb 0 base) (point - base) → is ≡ number_ends lo hi point
ends-by-sign lo hi point base is b e =
    e
    ∙ ap (λ (x : ℕ). number_done lo hi (ltb 0 x) (point - x)) b
    ∙ by-sign lo hi point (λ (x : ℕ) (negative : Bool) (at : ℕ). number_done lo hi negative at)
