use Rattle.std.proofs.Common.{take}
use Rattle.lf_core.specs.Written.{machine_of}
use Rattle.lf_witness.specs.Heads.{IsNearest}
use Rattle.lf_witness.proofs.heads.nearest.Given as goal

abbrev pub invariant-loop-x : goal.invariant-loop-x
invariant-loop-x l = IsNearest (machine_of l.pairs) (take l.x-index l.moves) l.least
