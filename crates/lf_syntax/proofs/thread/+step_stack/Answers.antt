use Rattle.lf_syntax.specs.Shape.{grammar, threads}
use Rattle.lf_syntax.proofs.Views.{stack_halts, stack_goes}
use Rattle.lf_syntax.proofs.thread.+step_stack.Goals as goal

pub returns-then-may_end : goal.returns-then-may_end
returns-then-may_end t c =
    stack_goes c.args.below.now.items c.pop.new.self.items c.in-Some.part c.in-Some.ensures.items c.may_end.result c.may_end.ensures (grammar c.args.by.now.rule.now) c.args.by.now.byte (threads c.args.into.now.items) (threads c.advance.new.into.items) c.in_ok-advance.ensures.made
    c.step_stack.result c.advance.new.below.items (threads c.step_stack.new.into.items) c.if-may_end.true c.in_ok-advance.ensures.same c.step_stack.ensures

pub returns : goal.returns
returns t c =
    stack_halts c.args.below.now.items c.pop.new.self.items c.in-Some.part c.in-Some.ensures.items c.may_end.result c.may_end.ensures (grammar c.args.by.now.rule.now) c.args.by.now.byte (threads c.args.into.now.items) (threads c.advance.new.into.items) c.in_ok-advance.ensures.made c.if-may_end.false
