use Rattle.std.proofs.Common.{◌∙◌, ◌+◌, ◌*◌, drop, arith}
use Rattle.envoy_front.proofs.Values.{step, over}
use Rattle.envoy_front.proofs.length.number.Goals as goal

pub returns-then-value-ge65536 : goal.returns-then-value-ge65536
returns-then-value-ge65536 c =
    let l = c.loop-b in
    over (10 * l.value + c.from.result) c.args.digits.now (drop (l.b-index + 1) c.args.digits.now) c.if-value-ge65536.true
    (step c.args.digits.now l.b-index l.value c.from.result c.loop-b-test.true (c.from.ensures ∙ c.saturating_sub.ensures) l.invariant.1)

pub loop-b-preserved : goal.loop-b-preserved
loop-b-preserved c =
    let l = c.loop-b in
    (omega (arith, c.if-value-ge65536.false), step c.args.digits.now l.b-index l.value c.from.result c.loop-b-test.true (c.from.ensures ∙ c.saturating_sub.ensures) l.invariant.1)
