use Rattle.std.proofs.Common.{◌≡◌, subst, sym, ap, to_z, of_z}
use Rattle.std.specs.Prelude.{ℤ, pos, ◌+ℤ◌, ◌*ℤ◌, Some}
use Rattle.std.specs.Int.{w64}
use Rattle.lf_core.specs.declared.values.Value.TheVariants.{Num}
use Rattle.lf_expression.specs.declared.expr.Operation.{Operation}
use Rattle.lf_expression.specs.Exprs.{operation_said}
use Rattle.lf_expression.specs.Values.{of_moment}
use Rattle.lf_expression.proofs.Times.{millis-cast}
use Rattle.lf_expression.proofs.values.of_moment.Goals as goal

pub returns-in-Millis : goal.returns-in-Millis
returns-in-Millis c =
    subst (λ (operation : Operation). Some (Num (to_z w64 (of_z w64 (to_z w64 (of_z w64 (pos 1000 *ℤ to_z w64 (of_z w64 c.epoch-in-Millis.result))) +ℤ to_z w64 c.args.civil.moment.millis)))) ≡ of_moment (operation_said operation) c.args.civil.moment)
    (sym c.in-Millis.is)
    (ap (λ (z : ℤ). Some (Num z)) (millis-cast c.args.civil.moment c.epoch-in-Millis.result c.args.civil.dated c.epoch-in-Millis.ensures))
