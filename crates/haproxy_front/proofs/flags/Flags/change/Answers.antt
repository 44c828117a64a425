use Rattle.std.proofs.Common.{sym, ◌∙◌}
use Rattle.haproxy_front.proofs.Changes.{after_one}
use Rattle.haproxy_front.proofs.flags.Flags.change.Goals as goal

pub loop-rest-preserved : goal.loop-rest-preserved
loop-rest-preserved c = sym (after_one c.loop-rest.flags c.with-flags.result c.loop-rest.rest.now c.split_at.result.1.now c.loop-rest-test.true c.if-rest-eq2.false (sym c.if-not-is_change.ensures) c.if-rest-ne44.false c.with-flags.ensures c.split_at.ensures.back) ∙ c.loop-rest.invariant
