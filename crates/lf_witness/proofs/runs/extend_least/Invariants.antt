use Rattle.lf_core.specs.Written.{machine_of}
use Rattle.lf_witness.proofs.RunSteps.{Extends}
use Rattle.lf_witness.proofs.runs.extend_least.Given as goal

abbrev pub invariant-loop-i : goal.invariant-loop-i
invariant-loop-i l = Extends (machine_of l.table) l.start l.line l.i l.initial.run l.run l.point
