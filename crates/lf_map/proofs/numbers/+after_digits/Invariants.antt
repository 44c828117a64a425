use Rattle.std.proofs.Common.{length}
use Rattle.lf_map.proofs.numbers.+after_digits.Given as goal

abbrev pub decreases-after_digits : goal.decreases-after_digits
decreases-after_digits l = length l.text.now
