-- The fault of an assignment of which all but the kind is good.
use Rattle.std.proofs.Common.{◌≡◌, ℕ, Bool, false, cond, List, length, ap, ◌∙◌}
use Rattle.std.specs.Prelude.{Option, None, Some}
use Rattle.lf_format.specs.declared.slot.Slot.{Slot as OneSlot}
use Rattle.lf_format.specs.Kinds.{value_kind}
use Rattle.lf_expression.specs.Exprs.{Expr}
use Rattle.lf_expression.specs.Kinds.{has_kind}
use Rattle.lf_expression.specs.Values.{nth}
use Rattle.lf_map.specs.declared.fault.MapFault.TheVariants.{Twice, Untyped}
use Rattle.lf_map.specs.Filling.{Form, first_stray, is_given, kind_fault, given_fault, stray_fault, target_fault, assign_fault}

pub checked : (source target : List OneSlot) (form : Form) (k : ℕ) (e : Expr) (slot : OneSlot) (b : Bool) → nth k target ≡ Some slot → first_stray (length source) e ≡ None
    → is_given (nth k form) ≡ false → has_kind source (value_kind slot.kind) e ≡ b → assign_fault source target form k e ≡ cond b None (Some (Untyped k))
checked source target form k e slot b n s g h =
    ap (λ (o : Option OneSlot). target_fault source form k o e) n ∙ ap (λ (o : Option ℕ). stray_fault o (given_fault source form k slot e)) s
    ∙ ap (λ (t : Bool). cond t (Some (Twice k)) (kind_fault source k slot e)) g ∙ ap (λ (t : Bool). cond t None (Some (Untyped k))) h
