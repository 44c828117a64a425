use Rattle.std.proofs.Common.{◌≡◌, ◌-◌, ◌≤◌, ◌^◌}
use Rattle.lf_number.specs.Numbers.{width}
use Rattle.lf_number.proofs.digits.width.Given as goal

abbrev pub invariant-loop-power : goal.invariant-loop-power
invariant-loop-power l = record {
  power_is : l.power ≡ l.radix ^ (l.digits - 1);
  least : 1 ≤ l.digits;
  most : l.digits ≤ width l.radix l.fn.number;
}

abbrev pub decreases-loop-power : goal.decreases-loop-power
decreases-loop-power l = width l.radix l.fn.number - l.digits
