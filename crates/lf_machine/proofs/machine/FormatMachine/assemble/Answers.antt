use Rattle.std.proofs.Common.{◌∙◌, ◌++◌, List, ap, subst}
use Rattle.lf_format.specs.declared.format.Piece.{Piece}
use Rattle.lf_machine.specs.LineBytes.{LiteralsAreBytes}
use Rattle.lf_machine.specs.LineMachine.{line_points}
use Rattle.lf_machine.proofs.Builds.{built, few-parts}
use Rattle.lf_machine.specs.Spots.{spots_from}
use Rattle.lf_machine.specs.declared.spots.Spot.{Spot}
use Rattle.lf_machine.proofs.machine.FormatMachine.assemble.Goals as goal

pub push_spots-requires-clause-few : goal.push_spots-requires-clause-few
push_spots-requires-clause-few c =
    let e = c.in_ok-push_parts.ensures.ok ∙ ap (λ (x : List Piece). x ++ c.pieces.result.now) c.new-parts.ensures.items ∙ c.pieces.ensures.pieces in
    few-parts c.as_slice.result.now c.args.format.now.pieces (c.as_slice.ensures.value ∙ e) c.pieces.ensures.keeps c.requires

pub invariant_of-result : goal.invariant_of-result
invariant_of-result c =
    let e = c.in_ok-push_parts.ensures.ok ∙ ap (λ (x : List Piece). x ++ c.pieces.result.now) c.new-parts.ensures.items ∙ c.pieces.ensures.pieces in
    built c.push_parts.new.parts.items c.args.format.now.pieces c.push_spots.new.spots.items c.points_of-count.result e c.pieces.ensures.keeps
    (subst (λ (ps : List Piece). LiteralsAreBytes ps) c.pieces.ensures.pieces c.in_ok-push_parts.ensures.bytes) c.requires
    (c.in_ok-push_spots.ensures.ok ∙ ap (λ (x : List Spot). x ++ spots_from 0 1 c.as_slice.result.now) c.new-spots.ensures.items ∙ ap (spots_from 0 1) c.as_slice.ensures.value)
    (c.points_of-count.ensures ∙ ap line_points c.as_slice-2.ensures.value)
