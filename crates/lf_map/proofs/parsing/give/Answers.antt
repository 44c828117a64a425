use Rattle.std.proofs.Common.{◌≡◌, sym, ◌∙◌, arith}
use Rattle.std.specs.Prelude.{Some}
use Rattle.lf_format.specs.Keeps.{slots_in}
use Rattle.lf_expression.specs.Exprs.{expr_said}
use Rattle.lf_map.specs.declared.fault.MapFault.{MapFault}
use Rattle.lf_map.specs.Forms.{form_said}
use Rattle.lf_map.specs.Filling.{part_fault}
use Rattle.lf_map.proofs.Giving.{in_range, gives, same_fault}
use Rattle.lf_map.proofs.Whole.{so_of}
use Rattle.lf_map.proofs.parsing.give.Goals as goal

pub returns-in-Some-clause-fault : goal.returns-in-Some-clause-fault
returns-in-Some-clause-fault c =
    so_of (λ (one : MapFault). part_fault (slots_in c.args.reading.now.source.now.pieces) (slots_in c.args.reading.now.target.now.pieces) c.args.part.now (form_said c.args.form.now) ≡ Some one) c.in-Some.fault
    (sym (same_fault c.args.part.now c.in-Ok.assign.target c.in-Ok.assign.expr c.in-Ok.ensures.target c.in-Ok.ensures.expr (slots_in c.args.reading.now.source.now.pieces) (slots_in c.args.reading.now.target.now.pieces) (form_said c.args.form.now)) ∙ sym c.assign_fault.ensures ∙ c.in-Some.is)

pub overflow_sub-assign : goal.overflow_sub-assign
overflow_sub-assign c = (in_range (slots_in c.args.reading.now.source.now.pieces) (slots_in c.args.reading.now.target.now.pieces) (form_said c.args.form.now) c.in-Ok.assign.target (expr_said c.in-Ok.assign.expr) (sym c.assign_fault.ensures ∙ c.in_default-assign_fault.is)).0

pub bounds-form-assign : goal.bounds-form-assign
bounds-form-assign c = let r = in_range (slots_in c.args.reading.now.source.now.pieces) (slots_in c.args.reading.now.target.now.pieces) (form_said c.args.form.now) c.in-Ok.assign.target (expr_said c.in-Ok.assign.expr) (sym c.assign_fault.ensures ∙ c.in_default-assign_fault.is) in let n = c.requires in omega (arith, r.0, r.1, n)

pub returns-clause-fine : goal.returns-clause-fine
returns-clause-fine c = sym (same_fault c.args.part.now c.in-Ok.assign.target c.in-Ok.assign.expr c.in-Ok.ensures.target c.in-Ok.ensures.expr (slots_in c.args.reading.now.source.now.pieces) (slots_in c.args.reading.now.target.now.pieces) (form_said c.args.form.now)) ∙ (sym c.assign_fault.ensures ∙ c.in_default-assign_fault.is)

pub returns-clause-given : goal.returns-clause-given
returns-clause-given c = gives c.args.part.now c.in-Ok.assign.target c.in-Ok.assign.expr c.in-Ok.ensures.target c.in-Ok.ensures.expr c.args.form.now
