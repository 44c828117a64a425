use Rattle.std.proofs.Common.{◌≡◌}
use Rattle.lf_stream.specs.Standing.{is_finished}
use Rattle.lf_small_streams.proofs.known.drain.Given as goal

abbrev pub invariant-loop-k : goal.invariant-loop-k
invariant-loop-k l = is_finished l.lines ≡ is_finished l.initial.lines
