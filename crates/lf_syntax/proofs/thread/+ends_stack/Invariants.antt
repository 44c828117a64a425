use Rattle.std.proofs.Common.{length}
use Rattle.lf_syntax.proofs.thread.+ends_stack.Given as goal

abbrev pub decreases-ends_stack : goal.decreases-ends_stack
decreases-ends_stack l = length l.below.now
