use Rattle.std.proofs.Common.{length}
use Rattle.lf_code_table.proofs.prefixes.+add_prefixes.Given as goal

abbrev pub decreases-add_prefixes : goal.decreases-add_prefixes
decreases-add_prefixes l = length l.rest.now
