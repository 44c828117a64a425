use Rattle.std.proofs.Common.{◌≤◌, Bool, ◌&&◌, not, ap, ◌∙◌, arith}
use Rattle.lf_core.specs.Class.{is_member}
use Rattle.lf_narrow.proofs.Ranges.{more_out, all_below}
use Rattle.lf_narrow.proofs.sets.outside.Goals as goal

pub loop-byte-preserved : goal.loop-byte-preserved
loop-byte-preserved c = λ x h.
    (rw (c.loop-byte.invariant x h, c.has-inside.ensures) at (c.without_if-all.ensures x h)) ∙ more_out (is_member c.args.set) x c.loop-byte.byte

pub returns-2 : goal.returns-2
returns-2 c = λ x h.
    (rw (c.loop-byte.invariant x h, c.has-inside.ensures) at (c.without_if-all.ensures x h)) ∙ more_out (is_member c.args.set) x c.loop-byte.byte
    ∙ (let g : 255 ≤ c.loop-byte.byte = omega arith in ap (λ (t : Bool). not (t && is_member c.args.set x)) (all_below x c.loop-byte.byte h g))
