use Rattle.std.proofs.Common.{ℕ, true, false, sym, ap, ◌∙◌}
use Rattle.lf_format.specs.declared.kind.ValueKind.{ValueKind}
use Rattle.lf_format.specs.Keeps.{slots_in}
use Rattle.lf_expression.specs.Exprs.{expr_said}
use Rattle.lf_expression.specs.Kinds.{has_kind}
use Rattle.lf_expression.proofs.Numbered.{nth_read, at_least_one, fits_below}
use Rattle.lf_map.specs.Forms.{form_said}
use Rattle.lf_map.specs.Filling.{first_stray}
use Rattle.lf_map.proofs.Checked.{checked}
use Rattle.lf_map.proofs.checking.assign_fault.Goals as goal

pub returns-then-not-has_kind : goal.returns-then-not-has_kind
returns-then-not-has_kind c =
    sym
    (checked (slots_in c.args.source.now.pieces) (slots_in c.args.target.now.pieces) (form_said c.args.form.now) c.args.assign.now.target (expr_said c.args.assign.now.expr) c.slot.result.now false
    (nth_read (slots_in c.args.target.now.pieces) c.args.assign.now.target c.slot.result.now (at_least_one c.args.assign.now.target c.if-k-eq0.false) (fits_below c.slots.result c.args.assign.now.target c.slots.ensures c.if-slots-k.false) c.slot.ensures)
    (ap (λ (n : ℕ). first_stray n (expr_said c.args.assign.now.expr)) (sym c.slots-2.ensures) ∙ sym c.first_stray.ensures ∙ c.in_default.is)
    (sym c.is_given.ensures ∙ c.if-is_given.false)
    (ap (λ (k : ValueKind). has_kind (slots_in c.args.source.now.pieces) k (expr_said c.args.assign.now.expr)) (sym c.value_kind.ensures) ∙ sym c.has_kind.ensures ∙ c.if-not-has_kind.true))

pub returns : goal.returns
returns c =
    sym
    (checked (slots_in c.args.source.now.pieces) (slots_in c.args.target.now.pieces) (form_said c.args.form.now) c.args.assign.now.target (expr_said c.args.assign.now.expr) c.slot.result.now true
    (nth_read (slots_in c.args.target.now.pieces) c.args.assign.now.target c.slot.result.now (at_least_one c.args.assign.now.target c.if-k-eq0.false) (fits_below c.slots.result c.args.assign.now.target c.slots.ensures c.if-slots-k.false) c.slot.ensures)
    (ap (λ (n : ℕ). first_stray n (expr_said c.args.assign.now.expr)) (sym c.slots-2.ensures) ∙ sym c.first_stray.ensures ∙ c.in_default.is)
    (sym c.is_given.ensures ∙ c.if-is_given.false)
    (ap (λ (k : ValueKind). has_kind (slots_in c.args.source.now.pieces) k (expr_said c.args.assign.now.expr)) (sym c.value_kind.ensures) ∙ sym c.has_kind.ensures ∙ c.if-not-has_kind.false))
