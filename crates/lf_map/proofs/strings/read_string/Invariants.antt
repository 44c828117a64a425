use Rattle.std.proofs.Common.{length}
use Rattle.lf_map.proofs.Lettered.{Spelled}
use Rattle.lf_map.proofs.strings.read_string.Given as goal

abbrev pub invariant-letters : goal.invariant-letters
invariant-letters l = Spelled l.text l.letters l.stage l.rest

abbrev pub decreases-letters : goal.decreases-letters
decreases-letters l = length l.rest
