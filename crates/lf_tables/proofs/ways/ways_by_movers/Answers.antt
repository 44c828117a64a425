use Rattle.std.proofs.Common.{◌≡◌, ◌∙◌, ℕ, List, get_or, take, sym, subst, ap}
use Rattle.std.proofs.lemmas.List.{take_more, take_all}
use Rattle.std.proofs.lemmas.List.Elements.{Contains-get_or}
use Rattle.lf_core.specs.Written.{machine_of}
use Rattle.lf_tables.specs.Movers.{AreWaysOf}
use Rattle.lf_tables.proofs.MoverLaws.{more_ways_of, all_ways_of}
use Rattle.lf_tables.proofs.ways.ways_by_movers.Goals as goal

pub add_mover-requires-clause-mover : goal.add_mover-requires-clause-mover
add_mover-requires-clause-mover c = c.requires.movers.low (get_or c.args.movers.now c.loop-mover.mover-index 0) (Contains-get_or c.args.movers.now c.loop-mover.mover-index 0 c.loop-mover-test.true)

pub loop-mover-preserved : goal.loop-mover-preserved
loop-mover-preserved c =
    let movers : List ℕ = c.args.movers.now in
    let i : ℕ = c.loop-mover.mover-index in
    subst (λ (xs : List ℕ). AreWaysOf (machine_of c.args.table.now) c.args.points.now c.args.byte xs c.add_mover.new.backs.items) (sym (take_more movers i 0 c.loop-mover-test.true))
    (more_ways_of (machine_of c.args.table.now) c.args.points.now c.args.byte (get_or movers i 0) (take i movers) c.loop-mover.backs.items c.add_mover.new.backs.items c.loop-mover.invariant c.in_ok-add_mover.ensures)

pub returns : goal.returns
returns c =
    let movers : List ℕ = c.args.movers.now in
    all_ways_of (machine_of c.args.table.now) c.args.points.now c.args.byte movers c.loop-mover.backs.items c.requires.points c.requires.movers
    (subst (λ (xs : List ℕ). AreWaysOf (machine_of c.args.table.now) c.args.points.now c.args.byte xs c.loop-mover.backs.items) (take_all c.loop-mover.mover-index movers c.loop-mover-test.false) c.loop-mover.invariant)
