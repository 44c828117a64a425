use Rattle.std.proofs.Common.{length}
use Rattle.lf_syntax.proofs.thread.+step_stack.Given as goal

abbrev pub decreases-step_stack : goal.decreases-step_stack
decreases-step_stack l = length l.below.now.items
