use Rattle.lf_core.proofs.Bits.{set_bit, clear_bit}
use Rattle.lf_core.proofs.class.put_bit.Goals as goal

pub returns-then-inside : goal.returns-then-inside
returns-then-inside c = λ i h. rw c.if-inside.true (set_bit c.args.bits c.args.at i c.requires)

pub returns-else-inside : goal.returns-else-inside
returns-else-inside c = λ i h. rw c.if-inside.false (clear_bit c.args.bits c.args.at i c.requires h)
