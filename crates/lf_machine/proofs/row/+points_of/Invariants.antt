use Rattle.std.proofs.Common.{length}
use Rattle.lf_machine.proofs.row.+points_of.Given as goal

abbrev pub decreases-points_of : goal.decreases-points_of
decreases-points_of l = length l.parts.now
