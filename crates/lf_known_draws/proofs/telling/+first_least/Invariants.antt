use Rattle.std.proofs.Common.{length}
use Rattle.lf_known_draws.proofs.telling.+first_least.Given as goal

abbrev pub decreases-first_least : goal.decreases-first_least
decreases-first_least l = length l.pieces.now
