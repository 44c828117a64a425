use Rattle.std.proofs.Common.{length}
use Rattle.lf_narrow.proofs.Steps.{Going}
use Rattle.lf_narrow.proofs.narrowing.apply_all.Given as goal

abbrev pub invariant-parts : goal.invariant-parts
invariant-parts l = Going l.text l.initial.pieces l.pieces l.at l.rest

abbrev pub decreases-parts : goal.decreases-parts
decreases-parts l = length l.rest
