use Rattle.std.proofs.Common.{length}
use Rattle.lf_machine.proofs.row.+push_entry.Given as goal

abbrev pub decreases-push_entry : goal.decreases-push_entry
decreases-push_entry l = length l.parts.now
