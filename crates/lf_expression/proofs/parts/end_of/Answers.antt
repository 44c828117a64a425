use Rattle.lf_expression.proofs.Cutting.{pass, front_found, rest_found}
use Rattle.lf_expression.proofs.parts.end_of.Goals as goal

pub loop-i-preserved : goal.loop-i-preserved
loop-i-preserved c = pass c.args.byte c.args.text.now c.loop-i.i c.loop-i-test.true c.if-one-byte.false c.loop-i.invariant

pub returns-then-one-byte-clause-front : goal.returns-then-one-byte-clause-front
returns-then-one-byte-clause-front c = front_found c.args.byte c.args.text.now c.loop-i.i c.loop-i-test.true c.if-one-byte.true c.loop-i.invariant

pub returns-then-one-byte-clause-rest : goal.returns-then-one-byte-clause-rest
returns-then-one-byte-clause-rest c = rest_found c.args.byte c.args.text.now c.loop-i.i c.loop-i-test.true c.if-one-byte.true c.loop-i.invariant
