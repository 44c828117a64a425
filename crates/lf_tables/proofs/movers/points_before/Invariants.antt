use Rattle.lf_core.specs.Written.{machine_of}
use Rattle.lf_tables.specs.Movers.{AreMovers}
use Rattle.lf_tables.proofs.movers.points_before.Given as goal

abbrev pub invariant-loop-point : goal.invariant-loop-point
invariant-loop-point l = AreMovers (machine_of l.table) l.byte l.point l.points.items
