use Rattle.std.proofs.Common.{length}
use Rattle.lf_machine.proofs.spots.+push_spots.Given as goal

abbrev pub decreases-push_spots : goal.decreases-push_spots
decreases-push_spots l = length l.parts.now
