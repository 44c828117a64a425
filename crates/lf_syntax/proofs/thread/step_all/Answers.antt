use Rattle.std.proofs.Common.{List, ◌++◌, sym, ap, ◌∙◌}
use Rattle.lf_syntax.specs.Shape.{grammar, thread_of}
use Rattle.lf_syntax.specs.Threads.{Thread, thread_step}
use Rattle.lf_syntax.proofs.Views.{threads_step_push}
use Rattle.lf_syntax.proofs.thread.step_all.Goals as goal

pub loop-thread-preserved : goal.loop-thread-preserved
loop-thread-preserved c =
    c.in_ok-step_thread.ensures
    ∙ ap (λ (ts : List Thread). ts ++ thread_step (grammar c.args.by.now.rule.now) (thread_of c.in-Some.thread) c.args.by.now.byte) c.loop-thread.invariant
    ∙ sym (threads_step_push (grammar c.args.by.now.rule.now) c.args.by.now.byte c.loop-thread.yielded c.in-Some.thread)
