use Rattle.lf_core.specs.Written.{machine_of}
use Rattle.lf_tables.specs.Classes.{AreFirsts}
use Rattle.lf_tables.proofs.classes.firsts_of.Given as goal

abbrev pub invariant-loop-point : goal.invariant-loop-point
invariant-loop-point l = AreFirsts (machine_of l.table) l.point l.firsts.items
