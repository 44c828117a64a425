use Rattle.lf_expression.proofs.Kinded.{sorted}
use Rattle.lf_expression.proofs.laws.keeps_kinds.Goals as goal

pub returns : goal.returns
returns c = λ source rec kind e r h. sorted source rec r kind e h
