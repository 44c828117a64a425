use Rattle.std.proofs.Common.{◌≡◌, false}
use Rattle.lf_stream.specs.Standing.{is_finished}
use Rattle.lf_small_streams.proofs.tests.ended_agree.Given as goal

abbrev pub invariant-loop-number : goal.invariant-loop-number
invariant-loop-number l = is_finished l.lines ≡ false
