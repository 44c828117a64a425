use Rattle.std.proofs.Common.{◌≡◌}
use Rattle.lf_expression.specs.Exprs.{exprs_said}
use Rattle.lf_map.specs.Forms.{form_said}
use Rattle.lf_map.specs.Filling.{all_given}
use Rattle.lf_map.proofs.parsing.all_given.Given as goal

abbrev pub invariant-loop-one : goal.invariant-loop-one
invariant-loop-one l = exprs_said l.exprs.items ≡ all_given (form_said l.yielded)
