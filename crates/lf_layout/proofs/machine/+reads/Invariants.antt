use Rattle.std.proofs.Common.{length}
use Rattle.lf_layout.proofs.machine.+reads.Given as goal

abbrev pub decreases-reads : goal.decreases-reads
decreases-reads l = length l.places.now
