use Rattle.std.proofs.Common.{List, [], ◌∷◌, ◌++◌, sym, ap, ◌∙◌}
use Rattle.lf_expression.specs.Exprs.{Expr}
use Rattle.lf_map.specs.Forms.{given_said}
use Rattle.lf_map.specs.Filling.{all_given}
use Rattle.lf_map.proofs.Grown.{all_given_push}
use Rattle.lf_map.proofs.parsing.all_given.Goals as goal

pub loop-one-preserved : goal.loop-one-preserved
loop-one-preserved c =
    c.in_ok-push_given.ensures ∙ ap (λ (es : List Expr). es ++ all_given (given_said c.in-Some.one ∷ [])) c.loop-one.invariant
    ∙ sym (all_given_push c.loop-one.yielded c.in-Some.one)
