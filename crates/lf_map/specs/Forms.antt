-- The form that the code's form is.
use Rattle.std.specs.Prelude.{List, [], ◌∷◌, Option, None, Some}
use Rattle.lf_expression.specs.declared.expr.Expr.{Expr as CodeExpr}
use Rattle.lf_expression.specs.Exprs.{Expr, expr_said}
use Rattle.lf_map.specs.Filling.{Form}

abbrev pub given_said : Option CodeExpr → Option Expr
given_said None = None
given_said (Some e) = Some (expr_said e)

abbrev pub form_said : List (Option CodeExpr) → Form
form_said [] = []
form_said (one ∷ more) = given_said one ∷ form_said more
