use Rattle.std.proofs.Common.{◌≡◌, length}
use Rattle.lf_words.specs.Command.{value_of}
use Rattle.lf_words.specs.Reading.{pairs}
use Rattle.lf_words.proofs.options.find.Given as goal

abbrev pub invariant-pairs : goal.invariant-pairs
invariant-pairs l = value_of l.name (pairs l.words) ≡ value_of l.name (pairs l.rest)

abbrev pub decreases-pairs : goal.decreases-pairs
decreases-pairs l = length l.rest
