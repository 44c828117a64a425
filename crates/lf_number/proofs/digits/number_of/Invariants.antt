use Rattle.std.proofs.Common.{◌≡◌, ◌-◌, ◌^◌, min, take}
use Rattle.lf_number.specs.Machines.{value_after}
use Rattle.lf_number.proofs.digits.number_of.Given as goal

abbrev pub invariant-loop-letter : goal.invariant-loop-letter
invariant-loop-letter l = l.value ≡ min (value_after l.radix 0 (take l.letter-index l.text)) (2 ^ 64 - 1)
