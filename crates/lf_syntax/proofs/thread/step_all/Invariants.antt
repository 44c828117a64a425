use Rattle.std.proofs.Common.{◌≡◌}
use Rattle.lf_syntax.specs.Shape.{grammar, threads}
use Rattle.lf_syntax.specs.Threads.{threads_step}
use Rattle.lf_syntax.proofs.thread.step_all.Given as goal

abbrev pub invariant-loop-thread : goal.invariant-loop-thread
invariant-loop-thread l = threads l.all.items ≡ threads_step (grammar l.by.rule.now) (threads l.yielded) l.by.byte
