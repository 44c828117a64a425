use Rattle.std.proofs.Common.{length}
use Rattle.lf_code_table.proofs.code_table.+find.Given as goal

abbrev pub decreases-find : goal.decreases-find
decreases-find l = length l.texts.now
