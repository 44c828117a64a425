use Rattle.std.proofs.Common.{◌∙◌, ◌++◌, List, sym, ap, append-nil}
use Rattle.lf_machine.specs.declared.spots.Spot.{Spot}
use Rattle.lf_machine.proofs.SpotLaws.{own-none, own-more}
use Rattle.lf_machine.proofs.spots.push_own.Goals as goal

pub loop-point-init : goal.loop-point-init
loop-point-init c =
    sym (ap (λ (xs : List Spot). c.args.spots.now.items ++ xs) (own-none c.args.number c.args.base c.args.part.now) ∙ append-nil c.args.spots.now.items)

pub loop-point-preserved : goal.loop-point-preserved
loop-point-preserved c = own-more c.args.number c.args.base c.args.part.now _ _ _ c.loop-point.point c.is_done-done.result c.loop-point.invariant c.is_done-done.ensures c.in_ok-push.ensures.items
