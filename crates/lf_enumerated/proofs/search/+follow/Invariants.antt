use Rattle.std.proofs.Common.{length}
use Rattle.lf_enumerated.proofs.search.+follow.Given as goal

abbrev pub decreases-follow : goal.decreases-follow
decreases-follow l = length l.line.now
