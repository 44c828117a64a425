use Rattle.std.proofs.Common.{take}
use Rattle.lf_tables.specs.Ways.{GainsMoves}
use Rattle.lf_tables.proofs.ways.add_moves.Given as goal

abbrev pub invariant-loop-step : goal.invariant-loop-step
invariant-loop-step l = GainsMoves l.before (take l.step-index l.moves) l.fn.backs.items l.backs.items
