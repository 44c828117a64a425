use Rattle.std.proofs.Common.{◌≤◌, Bool, ◌&&◌, ◌||◌, ap, ◌∙◌, arith}
use Rattle.lf_core.specs.Class.{is_member}
use Rattle.lf_syntax.specs.Leaf.{is_within}
use Rattle.lf_narrow.proofs.Ranges.{more_in, all_below}
use Rattle.lf_narrow.proofs.sets.with_range.Goals as goal

pub loop-byte-preserved : goal.loop-byte-preserved
loop-byte-preserved c = λ x h.
    (rw (c.loop-byte.invariant x h) at (c.with_if-all.ensures x h)) ∙ more_in (is_within c.args.first c.args.last) x c.loop-byte.byte (is_member c.args.set x)

pub returns-2 : goal.returns-2
returns-2 c = λ x h.
    (rw (c.loop-byte.invariant x h) at (c.with_if-all.ensures x h)) ∙ more_in (is_within c.args.first c.args.last) x c.loop-byte.byte (is_member c.args.set x)
    ∙ (let g : 255 ≤ c.loop-byte.byte = omega arith in ap (λ (t : Bool). is_member c.args.set x || (t && is_within c.args.first c.args.last x)) (all_below x c.loop-byte.byte h g))
