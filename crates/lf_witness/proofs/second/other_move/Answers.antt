use Rattle.std.proofs.Common.{◌≡◌, ◌+◌, ℕ, List, Some, get_or, take, drop, arith, ap, ◌∙◌, subst}
use Rattle.lf_core.specs.declared.marked.Move.{Move}
use Rattle.lf_core.specs.Marked.{Machine, IsMachine, stop}
use Rattle.lf_core.specs.Written.{machine_of}
use Rattle.lf_witness.specs.Open.{IsLeastOpen}
use Rattle.lf_witness.proofs.SetLaws.{set_after}
use Rattle.lf_witness.proofs.SecondLaws.{stop_below, least_length, moves_within, other_is}
use Rattle.lf_witness.proofs.second.other_move.Goals as goal

pub point_after-point-requires : goal.point_after-point-requires
point_after-point-requires c =
    let long = least_length (machine_of c.args.table.now) _ c.args.line.now c.args.first.now c.requires.first in
    omega (arith, long, c.requires.within)

pub moves-moves-requires : goal.moves-moves-requires
moves-moves-requires c =
    let m : Machine = machine_of c.args.table.now in
    let lawful : IsMachine m = c.requires.lawful in
    let point : c.point_after-point.result ≡ stop m.first (take c.args.at c.args.first.now) = c.point_after-point.ensures ∙ ap (λ (p : ℕ). stop p (take c.args.at c.args.first.now)) c.start.ensures in
    let low = stop_below m c.args.at m.first c.args.line.now c.args.first.now lawful lawful.begins c.requires.first.runs.0 in
    omega (arith, point, low)

pub get-requires : goal.get-requires
get-requires c =
    let long = least_length (machine_of c.args.table.now) _ c.args.line.now c.args.first.now c.requires.first in
    omega (arith, long, c.requires.within)

pub least_open-requires : goal.least_open-requires
least_open-requires c =
    let m : Machine = machine_of c.args.table.now in
    let lawful : IsMachine m = c.requires.lawful in
    let p = c.point_after-point.result in
    let point : p ≡ stop m.first (take c.args.at c.args.first.now) = c.point_after-point.ensures ∙ ap (λ (p : ℕ). stop p (take c.args.at c.args.first.now)) c.start.ensures in
    let low = stop_below m c.args.at m.first c.args.line.now c.args.first.now lawful lawful.begins c.requires.first.runs.0 in
    let after = set_after m c.args.line.now c.args.sets.now c.args.at c.index-sets-line.result c.deref.result.now c.requires.sets c.requires.within c.index-sets-line.is c.deref.ensures.value in
    moves_within m p (get_or c.args.line.now c.args.at 0) (drop (c.args.at + 1) c.args.line.now) c.moves-moves.result.now c.deref.result.now lawful (omega (arith, point, low)) (c.moves-moves.ensures) after

pub returns : goal.returns
returns c =
    let m : Machine = machine_of c.args.table.now in
    let line = c.args.line.now in
    let first = c.args.first.now in
    let at = c.args.at in
    let set = c.deref.result.now in
    let point : c.point_after-point.result ≡ stop m.first (take at first) = c.point_after-point.ensures ∙ ap (λ (p : ℕ). stop p (take at first)) c.start.ensures in
    let listed : c.moves-moves.result.now ≡ m.moves (stop m.first (take at first)) (get_or line at 0) = c.moves-moves.ensures ∙ ap (λ (p : ℕ). m.moves p (get_or line at 0)) point in
    let after = set_after m line c.args.sets.now at c.index-sets-line.result set c.requires.sets c.requires.within c.index-sets-line.is c.deref.ensures.value in
    other_is m line first at set c.least_open.result (c.requires.lawful) c.requires.first c.requires.within after
    (subst (λ (x : Move). IsLeastOpen (m.moves (stop m.first (take at first)) (get_or line at 0)) set (Some x) c.least_open.result) c.get.ensures
    (subst (λ (moves : List Move). IsLeastOpen moves set (Some c.get.result) c.least_open.result) listed c.least_open.ensures))
