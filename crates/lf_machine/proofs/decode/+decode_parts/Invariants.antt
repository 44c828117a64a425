use Rattle.std.proofs.Common.{length}
use Rattle.lf_machine.proofs.decode.+decode_parts.Given as goal

abbrev pub decreases-decode_parts : goal.decreases-decode_parts
decreases-decode_parts l = length l.parts.now
