use Rattle.std.proofs.Common.{length}
use Rattle.lf_machine.proofs.slot_part.SlotPart.+push_ends.Given as goal

abbrev pub decreases-push_ends : goal.decreases-push_ends
decreases-push_ends l = length l.letters.now
