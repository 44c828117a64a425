use Rattle.std.proofs.Common.{◌≡◌, ◌∙◌, ◌+◌, sym, subst, List, []}
use Rattle.std.proofs.lemmas.Bool.{eqb-true}
use Rattle.std.proofs.lemmas.List.{nil_from_length}
use Rattle.lf_core.specs.declared.marked.Move.{Move}
use Rattle.lf_core.specs.Written.{machine_of}
use Rattle.lf_tables.specs.Movers.{AreMovers}
use Rattle.lf_tables.proofs.MoverLaws.{skip_mover, push_mover}
use Rattle.lf_tables.proofs.movers.points_before.Goals as goal

pub loop-point-preserved-then-is_empty : goal.loop-point-preserved-then-is_empty
loop-point-preserved-then-is_empty c =
    let none : c.moves.result.now ≡ [] = nil_from_length c.moves.result.now (eqb-true _ _ (sym c.is_empty.ensures ∙ c.if-is_empty.true)) in
    skip_mover (machine_of c.args.table.now) c.args.byte c.loop-point.point c.loop-point.points.items c.loop-point.invariant (sym c.moves.ensures ∙ none)

pub loop-point-preserved : goal.loop-point-preserved
loop-point-preserved c =
    subst (λ xs. AreMovers (machine_of c.args.table.now) c.args.byte (c.loop-point.point + 1) xs) (sym c.in_ok-push.ensures.items)
    (push_mover (machine_of c.args.table.now) c.args.byte c.loop-point.point c.loop-point.points.items c.loop-point.invariant)
