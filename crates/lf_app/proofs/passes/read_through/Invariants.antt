use Rattle.std.proofs.Common.{◌≡◌, ◌-◌}
use Rattle.lf_io.specs.Moves.{Gets}
use Rattle.lf_stream.specs.Standing.{bytes_fed}
use Rattle.lf_limits.specs.Limits.{most_run_bytes}
use Rattle.lf_app.specs.Flush.{Follows}
use Rattle.lf_app.proofs.passes.read_through.Given as goal

abbrev pub invariant-loop-alloc : goal.invariant-loop-alloc
invariant-loop-alloc g l =
    Follows l.job l.lines l.report (g.S.Source.left l.initial.input) (g.S.Source.left l.input) (Gets (g.O.Sink.got l.initial.out) (g.O.Sink.got l.out)) (Gets (g.E.Sink.got l.initial.err) (g.E.Sink.got l.err))
    × (g.S.Source.faults l.input ≡ g.S.Source.faults l.initial.input)
    × (g.O.Sink.faults l.out ≡ g.O.Sink.faults l.initial.out)
    × (g.E.Sink.faults l.err ≡ g.E.Sink.faults l.initial.err)

abbrev pub decreases-loop-alloc : goal.decreases-loop-alloc
decreases-loop-alloc g l = most_run_bytes - bytes_fed l.lines
