use Rattle.std.proofs.Common.{◌-◌, length}
use Rattle.lf_core.specs.Written.{machine_of}
use Rattle.lf_witness.specs.Branch.{OnlyFrom}
use Rattle.lf_witness.proofs.second.last_branch.Given as goal

abbrev pub invariant-loop-k : goal.invariant-loop-k
invariant-loop-k l = OnlyFrom (machine_of l.table) l.line l.first (length l.line - l.k)
