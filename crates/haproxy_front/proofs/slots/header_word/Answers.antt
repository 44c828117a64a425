use Rattle.std.proofs.Common.{arith}
use Rattle.lf_core.specs.declared.class.TheConstants.Class as classes
use Rattle.haproxy_front.proofs.ClassBits.{both-is}
use Rattle.haproxy_front.proofs.slots.header_word.Goals as goal

pub returns : goal.returns
returns c = both-is classes.HEADER classes.NO_SPACE c.both.result c.both.ensures c.both.type_inv.1.1.0.1 c.both.type_inv.1.1.1.0.1 (omega arith) (omega arith)
