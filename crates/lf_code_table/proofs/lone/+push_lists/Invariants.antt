use Rattle.std.proofs.Common.{length}
use Rattle.lf_code_table.proofs.lone.+push_lists.Given as goal

abbrev pub decreases-push_lists : goal.decreases-push_lists
decreases-push_lists g l = length l.endings.now
