use Rattle.std.proofs.Common.{length}
use Rattle.lf_syntax.proofs.thread.+may_end.Given as goal

abbrev pub decreases-may_end : goal.decreases-may_end
decreases-may_end l = length l.all.now
