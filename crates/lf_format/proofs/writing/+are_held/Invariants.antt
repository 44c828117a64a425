use Rattle.std.proofs.Common.{length}
use Rattle.lf_format.proofs.writing.+are_held.Given as goal

abbrev pub decreases-are_held : goal.decreases-are_held
decreases-are_held l = length l.pieces.now
