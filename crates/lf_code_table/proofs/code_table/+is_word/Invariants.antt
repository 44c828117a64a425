use Rattle.std.proofs.Common.{length}
use Rattle.lf_code_table.proofs.code_table.+is_word.Given as goal

abbrev pub decreases-is_word : goal.decreases-is_word
decreases-is_word l = length l.read.now
