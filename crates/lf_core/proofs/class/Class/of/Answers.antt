use Rattle.std.proofs.Common.{arith, ◌∙◌, ◌≤◌}
use Rattle.lf_core.proofs.Bits.{one_more, every_byte}
use Rattle.lf_core.proofs.class.Class.of.Goals as goal

pub loop-b-preserved : goal.loop-b-preserved
loop-b-preserved c = λ x h.
    (rw (c.loop-b.invariant x h) at (c.put-all.ensures x h)) ∙ one_more x c.args.first c.args.last c.loop-b.b

pub returns-2 : goal.returns-2
returns-2 c = λ x h.
    (rw (c.loop-b.invariant x h) at (c.put-all.ensures x h)) ∙ one_more x c.args.first c.args.last c.loop-b.b ∙ (let g : 255 ≤ c.loop-b.b = omega arith in every_byte x c.loop-b.b _ h g)
