use Rattle.std.proofs.Common.{◌≡◌, false}
use Rattle.lf_stream.specs.Standing.{is_finished}
use Rattle.lf_small_streams.proofs.known.told.Given as goal

abbrev pub invariant-loop-piece : goal.invariant-loop-piece
invariant-loop-piece l = is_finished l.lines ≡ false
