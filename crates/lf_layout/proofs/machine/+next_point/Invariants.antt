use Rattle.std.proofs.Common.{length}
use Rattle.lf_layout.proofs.machine.+next_point.Given as goal

abbrev pub decreases-next_point : goal.decreases-next_point
decreases-next_point l = length l.places.now
