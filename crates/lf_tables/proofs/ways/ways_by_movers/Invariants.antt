use Rattle.std.proofs.Common.{take}
use Rattle.lf_core.specs.Written.{machine_of}
use Rattle.lf_tables.specs.Movers.{AreWaysOf}
use Rattle.lf_tables.proofs.ways.ways_by_movers.Given as goal

abbrev pub invariant-loop-mover : goal.invariant-loop-mover
invariant-loop-mover l = AreWaysOf (machine_of l.table) l.points l.byte (take l.mover-index l.movers) l.backs.items
