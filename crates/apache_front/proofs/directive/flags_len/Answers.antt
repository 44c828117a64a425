use Rattle.std.proofs.Common.{arith}
use Rattle.std.proofs.lemmas.List.Sums.{prefix_len-le-length}
use Rattle.std.proofs.Common.{◌+◌, ◌∙◌, ap}
use Rattle.apache_front.specs.Directive.{is_flag}
use Rattle.std.proofs.lemmas.Bool.{ne_eqb}
use Rattle.apache_front.proofs.Cuts.{flags_bang, flags_plain}
use Rattle.apache_front.proofs.directive.flags_len.Goals as goal

pub overflow_add-result : goal.overflow_add-result
overflow_add-result c = omega (arith, c.flag_run.ensures, prefix_len-le-length is_flag c.in-Some.rest.now, c.in-Some.ensures.cases.1)

pub returns-then-first-eq33 : goal.returns-then-first-eq33
returns-then-first-eq33 c = ap (λ n. 1 + n) c.flag_run.ensures ∙ flags_bang c.args.text.now c.in-Some.first.now c.in-Some.rest.now c.in-Some.ensures.cases.0 c.if-first-eq33.true

pub returns : goal.returns
returns c = c.flag_run-2.ensures ∙ flags_plain c.args.text.now c.in-Some.first.now c.in-Some.rest.now c.in-Some.ensures.cases.0 (ne_eqb c.in-Some.first.now 33 c.if-first-eq33.false)
