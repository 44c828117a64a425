-- An expression that is given to its slot.
use Rattle.std.proofs.Common.{◌≡◌, ℕ, zero, suc, ◌-◌, ◌≤◌, List, length, refl, ap, ◌∙◌, arith}
use Rattle.std.specs.Prelude.{Option, None, Some}
use Rattle.std.proofs.Math.ListN.{set}
use Rattle.std.proofs.lemmas.Option.{slice_get_within}
use Rattle.lf_format.specs.declared.slot.Slot.{Slot as OneSlot}
use Rattle.lf_expression.specs.declared.expr.Expr.{Expr as CodeExpr}
use Rattle.lf_expression.specs.Exprs.{Expr, expr_said}
use Rattle.lf_expression.specs.Values.{nth}
use Rattle.lf_map.specs.Assigns.{target_of, expr_of}
use Rattle.lf_map.specs.Forms.{form_said}
use Rattle.lf_map.specs.Filling.{Form, put, target_fault, assign_fault, part_fault, form_after}
use Rattle.lf_map.proofs.Grown.{form_put}

nth_within : {A : Type 0} (xs : List A) (k : ℕ) (x : A) → nth k xs ≡ Some x → (1 ≤ k) × (k ≤ length xs)
nth_within xs zero x e = absurd (cc)
nth_within xs (suc n) x e = let h = slice_get_within xs n x e in (omega arith, omega (arith, h))

module _ (source target : List OneSlot) (form : Form) (k : ℕ) (e : Expr) where
  by_slot : (o : Option OneSlot) → nth k target ≡ o → target_fault source form k o e ≡ None → (1 ≤ k) × (k ≤ length target)
  by_slot None q h = absurd (cc)
  by_slot (Some x) q h = nth_within target k x q

  pub in_range : assign_fault source target form k e ≡ None → (1 ≤ k) × (k ≤ length target)
  in_range h = by_slot (nth k target) refl h

module _ (part : List ℕ) (k : ℕ) (e : CodeExpr) (p : k ≡ target_of part) (q : expr_said e ≡ expr_of part) where
  pub gives : (form : List (Option CodeExpr)) → form_said (set form (k - 1) (Some e)) ≡ form_after part (form_said form)
  gives form =
      form_put form (k - 1) e ∙ ap (λ (x : Expr). put (k - 1) x (form_said form)) q ∙ ap (λ (n : ℕ). put (n - 1) (expr_of part) (form_said form)) p

  pub same_fault : (source target : List OneSlot) (form : Form) → assign_fault source target form k (expr_said e) ≡ part_fault source target part form
  same_fault source target form =
      ap (λ (x : Expr). assign_fault source target form k x) q ∙ ap (λ (n : ℕ). assign_fault source target form n (expr_of part)) p
