use Rattle.std.proofs.Common.{◌++◌, [], ◌∷◌, sym, ap, ◌∙◌, List}
use Rattle.std.specs.Prelude.{Option}
use Rattle.lf_expression.specs.declared.expr.Expr.{Expr}
use Rattle.lf_expression.specs.Exprs.{exprs_said}
use Rattle.lf_map.specs.Forms.{given_said}
use Rattle.lf_map.specs.Filling.{all_given}
use Rattle.lf_map.proofs.Grown.{exprs_more}
use Rattle.lf_map.proofs.parsing.push_given.Goals as goal

pub returns-in_ok-push-in-Some : goal.returns-in_ok-push-in-Some
returns-in_ok-push-in-Some c =
    ap (λ (es : List Expr). exprs_said es) c.in_ok-push-in-Some.ensures.items ∙ exprs_more c.args.into.now.items c.in-Some.expr
    ∙ ap (λ (o : Option Expr). exprs_said c.args.into.now.items ++ all_given (given_said o ∷ [])) (sym c.in-Some.is)
