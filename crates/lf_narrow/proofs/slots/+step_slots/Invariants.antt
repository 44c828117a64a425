use Rattle.std.proofs.Common.{length}
use Rattle.lf_narrow.proofs.slots.+step_slots.Given as goal

abbrev pub decreases-step_slots : goal.decreases-step_slots
decreases-step_slots l = length l.pieces.now
