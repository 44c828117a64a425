use Rattle.std.proofs.Common.{take}
use Rattle.lf_witness.specs.Open.{IsLeastOpen}
use Rattle.lf_witness.proofs.runs.least_open.Given as goal

abbrev pub invariant-loop-x : goal.invariant-loop-x
invariant-loop-x l = IsLeastOpen (take l.x-index l.moves) l.after l.but l.least
