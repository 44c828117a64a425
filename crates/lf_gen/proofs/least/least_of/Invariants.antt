use Rattle.std.proofs.Common.{take}
use Rattle.lf_gen.specs.Compared.{IsLeastOf}
use Rattle.lf_gen.proofs.least.least_of.Given as goal

abbrev pub invariant-loop-value : goal.invariant-loop-value
invariant-loop-value l = IsLeastOf l.fn.slot (take l.value-index l.fn.values) l.least
