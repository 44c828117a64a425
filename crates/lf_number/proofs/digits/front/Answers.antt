use Rattle.std.proofs.Common.{◌∙◌, sym, arith}
use Rattle.lf_number.proofs.Places.{front-stays}
use Rattle.lf_number.proofs.digits.front.Goals as goal

pub returns-then-rest-eq0 : goal.returns-then-rest-eq0
returns-then-rest-eq0 c =
    sym (front-stays c.args.radix c.args.number c.loop.counter c.args.digits (omega arith) (sym c.loop.invariant ∙ c.if-rest-eq0.true))
