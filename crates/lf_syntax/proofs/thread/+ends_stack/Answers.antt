use Rattle.lf_syntax.proofs.Views.{last_ends, last_stays}
use Rattle.lf_syntax.proofs.thread.+ends_stack.Goals as goal

pub returns-then-may_end : goal.returns-then-may_end
returns-then-may_end t c =
    last_ends c.args.below.now c.in-Some.rest.now c.in-Some.part.now c.in-Some.ensures.cases.0 c.may_end.result c.may_end.ensures c.ends_stack.result c.if-may_end.true c.ends_stack.ensures

pub returns-else-may_end : goal.returns-else-may_end
returns-else-may_end t c =
    last_stays c.args.below.now c.in-Some.rest.now c.in-Some.part.now c.in-Some.ensures.cases.0 c.may_end.result c.may_end.ensures c.if-may_end.false
