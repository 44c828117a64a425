use Rattle.lf_written.proofs.CellLaws.{AreFirst}
use Rattle.lf_written.proofs.cells.cells_of.Given as goal

abbrev pub invariant-loop-cell : goal.invariant-loop-cell
invariant-loop-cell g l = AreFirst (g.M.Marked.machine l.m) l.cells.starts.items l.cells.moves.items l.cell
