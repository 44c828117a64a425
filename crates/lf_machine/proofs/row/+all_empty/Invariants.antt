use Rattle.std.proofs.Common.{length}
use Rattle.lf_machine.proofs.row.+all_empty.Given as goal

abbrev pub decreases-all_empty : goal.decreases-all_empty
decreases-all_empty l = length l.parts.now
