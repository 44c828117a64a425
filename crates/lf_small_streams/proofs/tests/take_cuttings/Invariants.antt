use Rattle.std.proofs.Common.{◌≡◌, false}
use Rattle.lf_stream.specs.Standing.{is_finished}
use Rattle.lf_small_streams.proofs.tests.take_cuttings.Given as goal

abbrev pub invariant-loop-cuts : goal.invariant-loop-cuts
invariant-loop-cuts l = is_finished l.lines ≡ false
