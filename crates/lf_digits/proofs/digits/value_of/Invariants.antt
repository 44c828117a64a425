use Rattle.std.proofs.Common.{◌≡◌, ◌-◌, ◌^◌, min, take}
use Rattle.lf_number.specs.Machines.{value_after}
use Rattle.lf_digits.proofs.digits.value_of.Given as goal

abbrev pub invariant-loop-digit : goal.invariant-loop-digit
invariant-loop-digit l = l.value ≡ min (value_after 10 0 (take l.digit-index l.digits)) (2 ^ 64 - 1)
