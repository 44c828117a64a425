use Rattle.std.proofs.Common.{length}
use Rattle.lf_narrow.proofs.slots.+count_slots.Given as goal

abbrev pub decreases-count_slots : goal.decreases-count_slots
decreases-count_slots l = length l.pieces.now
