use Rattle.std.proofs.Common.{rules}
use Rattle.lf_core.specs.Marked.{Machine}
use Rattle.lf_written.proofs.TableLaws.{laid_is_written, cells_laid}
use Rattle.lf_written.proofs.table.Table.of.Goals as goal

pub invariant_of-result : goal.invariant_of-result
invariant_of-result g c =
    let m : Machine = g.M.Marked.machine c.args.m.now in
    cells_laid m c.points.result c.in_ok-cells.cells.starts.items c.in_ok-cells.cells.moves.items c.in_ok-ends.ends.items (search rules) c.in_ok-cells.ensures.cells c.in_ok-ends.ensures

pub returns : goal.returns
returns g c =
    let m : Machine = g.M.Marked.machine c.args.m.now in
    laid_is_written m c.points.result c.start.result c.in_ok-cells.cells.starts.items c.in_ok-cells.cells.moves.items c.in_ok-ends.ends.items (search rules) (search rules) c.in_ok-cells.ensures.moves c.in_ok-ends.ensures
