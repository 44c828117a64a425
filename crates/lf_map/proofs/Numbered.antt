-- What a form gives the slot of a number, counted from 1.
use Rattle.std.proofs.Common.{◌≡◌, ℕ, zero, suc, ◌-◌, List, [], ◌∷◌, refl, ap, ◌∙◌, arith}
use Rattle.std.specs.Prelude.{Option, None, Some, slice_get}
use Rattle.lf_expression.specs.declared.expr.Expr.{Expr as CodeExpr}
use Rattle.lf_expression.specs.Exprs.{Expr}
use Rattle.lf_expression.specs.Values.{nth}
use Rattle.lf_map.specs.Forms.{given_said, form_said}

abbrev pub said_or : Option (Option Expr) → Option (Option CodeExpr) → Option (Option Expr)
said_or other None = other
said_or other (Some one) = Some (given_said one)

pub form_get : (form : List (Option CodeExpr)) (n : ℕ) → slice_get (form_said form) n ≡ said_or None (slice_get form n)
form_get [] n = refl
form_get (one ∷ form) zero = refl
form_get (one ∷ form) (suc n) = form_get form n

pub form_nth : (form : List (Option CodeExpr)) (k : ℕ) (one : Option CodeExpr) → (k ≡ 0 → ⊥) → slice_get form (k - 1) ≡ Some one → nth k (form_said form) ≡ Some (given_said one)
form_nth form zero one h e = absurd (h refl)
form_nth form (suc n) one h e =
    let i : n ≡ suc n - 1 = omega arith in
    form_get form n ∙ ap (λ (j : ℕ). said_or None (slice_get form j)) i ∙ ap (λ (o : Option (Option CodeExpr)). said_or None o) e

pub form_past : (form : List (Option CodeExpr)) (k : ℕ) → (k ≡ 0 → ⊥) → slice_get form (k - 1) ≡ None → nth k (form_said form) ≡ None
form_past form zero h e = absurd (h refl)
form_past form (suc n) h e =
    let i : n ≡ suc n - 1 = omega arith in
    form_get form n ∙ ap (λ (j : ℕ). said_or None (slice_get form j)) i ∙ ap (λ (o : Option (Option CodeExpr)). said_or None o) e
