use Rattle.lf_core.specs.Written.{machine_of}
use Rattle.lf_tables.specs.Ways.{AreWays}
use Rattle.lf_tables.proofs.ways.ways_by_points.Given as goal

abbrev pub invariant-loop-place : goal.invariant-loop-place
invariant-loop-place l = AreWays (machine_of l.table) l.points l.byte l.place l.backs.items
