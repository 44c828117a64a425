use Rattle.lf_expression.proofs.Cutting.{Passed}
use Rattle.lf_expression.proofs.parts.end_of.Given as goal

abbrev pub invariant-loop-i : goal.invariant-loop-i
invariant-loop-i l = Passed l.byte l.text l.i
