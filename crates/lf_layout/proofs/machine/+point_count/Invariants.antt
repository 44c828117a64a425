use Rattle.std.proofs.Common.{length}
use Rattle.lf_layout.proofs.machine.+point_count.Given as goal

abbrev pub decreases-point_count : goal.decreases-point_count
decreases-point_count l = length l.places.now
