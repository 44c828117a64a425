use Rattle.std.proofs.Common.{◌≡◌, false}
use Rattle.lf_stream.specs.Standing.{is_finished}
use Rattle.lf_small_streams.proofs.tests.take_text.Given as goal

abbrev pub invariant-loop-at : goal.invariant-loop-at
invariant-loop-at l = is_finished l.lines ≡ false
