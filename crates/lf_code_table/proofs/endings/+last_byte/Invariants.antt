use Rattle.std.proofs.Common.{length}
use Rattle.lf_code_table.proofs.endings.+last_byte.Given as goal

abbrev pub decreases-last_byte : goal.decreases-last_byte
decreases-last_byte l = length l.word.now
