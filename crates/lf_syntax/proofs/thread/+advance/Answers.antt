use Rattle.std.proofs.Common.{rules, refl}
use Rattle.lf_syntax.specs.Threads.{step_again}
use Rattle.lf_syntax.specs.Shape.{grammar, threads}
use Rattle.lf_syntax.proofs.Advance.{restored, star_made, sequence_stops, sequence_goes}
use Rattle.lf_syntax.proofs.thread.+advance.Goals as goal

pub returns-then-may_end-clause-made : goal.returns-then-may_end-clause-made
returns-then-may_end-clause-made t c =
    sequence_goes (step_again (grammar c.args.by.now.rule.now) c.args.by.now.byte c.args.depth) c.args.depth c.args.by.now.byte
    c.args.below.now.items c.push.new.self.items (threads c.args.into.now.items) (threads c.advance.new.into.items)
    c.may_end.result (grammar c.args.next.now) (grammar c.deref-in-Sequence.result.now) (grammar c.deref-in-Sequence-2.result.now) (grammar c.deref.result.now)
    (search rules) (search rules) c.may_end.ensures
    _ c.advance-then-may_end.result c.truncate.new.self.items (threads c.advance-then-may_end.new.into.items) (grammar c.deref-then-may_end.result.now)
    c.in_ok-push-in-Sequence.ensures.items refl c.in_ok-advance-in-Sequence.ensures.made c.if-may_end.true
    (restored c.args.below.now.items c.push.new.self.items c.advance.new.below.items c.truncate.new.self.items _ c.len-height.result c.in_ok-push-in-Sequence.ensures.items c.in_ok-advance-in-Sequence.ensures.same c.truncate.ensures.items (search rules))
    (search rules) c.advance-then-may_end.ensures.made

pub returns-else-may_end-clause-made : goal.returns-else-may_end-clause-made
returns-else-may_end-clause-made t c =
    sequence_stops (step_again (grammar c.args.by.now.rule.now) c.args.by.now.byte c.args.depth) c.args.depth c.args.by.now.byte
    c.args.below.now.items c.push.new.self.items (threads c.args.into.now.items) (threads c.advance.new.into.items)
    c.may_end.result (grammar c.args.next.now) (grammar c.deref-in-Sequence.result.now) (grammar c.deref-in-Sequence-2.result.now) (grammar c.deref.result.now)
    (search rules) (search rules) c.may_end.ensures
    _ c.in_ok-push-in-Sequence.ensures.items refl c.in_ok-advance-in-Sequence.ensures.made c.if-may_end.false

pub returns-in_ok-advance-in-Star-clause-made : goal.returns-in_ok-advance-in-Star-clause-made
returns-in_ok-advance-in-Star-clause-made t c =
    star_made (step_again (grammar c.args.by.now.rule.now) c.args.by.now.byte c.args.depth) c.args.depth c.args.by.now.byte
    c.args.below.now.items c.push-in-Star.new.self.items (threads c.args.into.now.items) (threads c.advance-in-Star.new.into.items)
    _ (grammar c.args.next.now) (grammar c.deref-in-Star.result.now)
    (search rules) c.in_ok-push-in-Star.ensures.items refl c.in_ok-advance-in-Star.ensures.made
