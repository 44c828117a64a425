use Rattle.std.proofs.Common.{◌≡◌, ◌*◌, rules, subst, ℕ}
use Rattle.lf_core.specs.Marked.{Machine}
use Rattle.lf_written.proofs.CellLaws.{AreFirst, add_cells, cells_are, moves_held}
use Rattle.lf_written.proofs.cells.cells_of.Goals as goal

pub loop-cell-preserved : goal.loop-cell-preserved
loop-cell-preserved g c =
    let m : Machine = g.M.Marked.machine c.args.m.now in
    add_cells m c.loop-cell.cells.starts.items c.add_cell.new.cells.starts.items c.loop-cell.cells.moves.items c.add_cell.new.cells.moves.items c.loop-cell.cell c.loop-cell.invariant (search rules) (search rules)

pub returns-clause-cells : goal.returns-clause-cells
returns-clause-cells g c =
    let m : Machine = g.M.Marked.machine c.args.m.now in
    let all : c.loop-cell.cell ≡ m.count * 256 = search rules in
    cells_are m c.loop-cell.cells.starts.items c.loop-cell.cells.moves.items (m.count * 256) (subst (λ (k : ℕ). AreFirst m c.loop-cell.cells.starts.items c.loop-cell.cells.moves.items k) all c.loop-cell.invariant)

pub returns-clause-moves : goal.returns-clause-moves
returns-clause-moves g c =
    let m : Machine = g.M.Marked.machine c.args.m.now in
    let all : c.loop-cell.cell ≡ m.count * 256 = search rules in
    moves_held m c.loop-cell.cells.starts.items c.loop-cell.cells.moves.items (subst (λ (k : ℕ). AreFirst m c.loop-cell.cells.starts.items c.loop-cell.cells.moves.items k) all c.loop-cell.invariant)
