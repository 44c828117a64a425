use Rattle.std.proofs.Common.{length}
use Rattle.lf_small_streams.proofs.plain.+cut.Given as goal

abbrev pub decreases-cut : goal.decreases-cut
decreases-cut l = length l.text.now
