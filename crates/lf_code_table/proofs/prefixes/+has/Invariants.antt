use Rattle.std.proofs.Common.{length}
use Rattle.lf_code_table.proofs.prefixes.+has.Given as goal

abbrev pub decreases-has : goal.decreases-has
decreases-has l = length l.table.now
