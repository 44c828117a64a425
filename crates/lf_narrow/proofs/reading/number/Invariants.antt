use Rattle.std.proofs.Common.{◌≡◌, drop}
use Rattle.lf_syntax.specs.Leaf.{value_from}
use Rattle.lf_narrow.proofs.reading.number.Given as goal

abbrev pub invariant-loop-digit : goal.invariant-loop-digit
invariant-loop-digit l = value_from l.value (drop l.digit-index l.text) ≡ value_from 0 l.text
