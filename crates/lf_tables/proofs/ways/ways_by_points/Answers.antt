use Rattle.std.proofs.Common.{List, get_or, subst}
use Rattle.std.proofs.lemmas.List.Elements.{Contains-get_or}
use Rattle.lf_core.specs.declared.marked.Move.{Move}
use Rattle.lf_core.specs.Marked.{Machine}
use Rattle.lf_core.specs.Written.{machine_of}
use Rattle.lf_tables.specs.declared.ways.Back.{Back}
use Rattle.lf_tables.specs.Ways.{GainsMoves}
use Rattle.lf_tables.proofs.WayLaws.{more_ways}
use Rattle.lf_tables.proofs.ways.ways_by_points.Goals as goal

pub moves-requires : goal.moves-requires
moves-requires c = c.requires (get_or c.args.points.now c.loop-place.place 0) (Contains-get_or c.args.points.now c.loop-place.place 0 c.loop-place-test.true)

pub loop-place-preserved : goal.loop-place-preserved
loop-place-preserved c =
    let m : Machine = machine_of c.args.table.now in
    let old : List Back = c.loop-place.backs.items in
    let new : List Back = c.add_moves.new.backs.items in
    more_ways m c.args.points.now c.args.byte c.loop-place.place old new c.loop-place.invariant
    (subst (λ (xs : List Move). GainsMoves c.loop-place.place xs old new) c.moves.ensures c.in_ok-add_moves.ensures)
