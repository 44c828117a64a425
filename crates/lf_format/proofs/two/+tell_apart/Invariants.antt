use Rattle.std.proofs.Common.{length}
use Rattle.lf_format.proofs.two.+tell_apart.Given as goal

abbrev pub decreases-tell_apart : goal.decreases-tell_apart
decreases-tell_apart l = length l.pieces.now
