use Rattle.std.proofs.Common.{length}
use Rattle.lf_code_table.proofs.lone.+push_lone.Given as goal

abbrev pub decreases-push_lone : goal.decreases-push_lone
decreases-push_lone g l = length l.letters.now
