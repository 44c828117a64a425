use Rattle.lf_core.specs.Written.{machine_of}
use Rattle.lf_tables.specs.Classes.{AreClasses}
use Rattle.lf_tables.proofs.classes.classes_of.Given as goal

abbrev pub invariant-loop-byte : goal.invariant-loop-byte
invariant-loop-byte l = AreClasses (machine_of l.table) l.classes.class_of.items l.classes.firsts.items l.byte
