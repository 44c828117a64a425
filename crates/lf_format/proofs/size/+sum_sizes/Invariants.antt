use Rattle.std.proofs.Common.{length}
use Rattle.lf_format.proofs.size.+sum_sizes.Given as goal

abbrev pub decreases-sum_sizes : goal.decreases-sum_sizes
decreases-sum_sizes l = length l.pieces.now
