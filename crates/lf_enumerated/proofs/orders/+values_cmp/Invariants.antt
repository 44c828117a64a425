use Rattle.std.proofs.Common.{length}
use Rattle.lf_enumerated.proofs.orders.+values_cmp.Given as goal

abbrev pub decreases-values_cmp : goal.decreases-values_cmp
decreases-values_cmp l = length l.pieces.now
