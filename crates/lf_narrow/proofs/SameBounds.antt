-- Ranges with equal bounds are equal: it doesn't matter how a bound was proved.
use Rattle.std.proofs.Common.{◌≡◌, ap, subst, ◌∙◌}
use Rattle.std.specs.Prelude.{ℤ, pos, ◌≤ℤ◌}
use Rattle.std.proofs.Math.Dec.{T_prop}

not_negative_prop : (lo : ℤ) → IsProp (pos 0 ≤ℤ lo)
not_negative_prop lo = hlevel T_prop

pub bounds-same : (D : Type 0) (made : (lo hi : ℤ) → pos 0 ≤ℤ lo → D) (lo hi a b : ℤ) (p : pos 0 ≤ℤ lo) (q : pos 0 ≤ℤ a) → lo ≡ a → hi ≡ b → made lo hi p ≡ made a b q
bounds-same D made lo hi a b p q e f =
    let P : ℤ → Type 0 = λ a. (q : pos 0 ≤ℤ a) → made lo hi p ≡ made a hi q in
    let low = subst P e (λ q. ap (made lo hi) (not_negative_prop lo p q)) in
    low q ∙ ap (λ (hi : ℤ). made a hi q) f
