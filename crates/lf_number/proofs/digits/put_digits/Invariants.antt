use Rattle.std.proofs.Common.{◌≡◌, ◌≤◌, ◌+◌, ◌++◌, drop, length}
use Rattle.lf_number.specs.Numbers.{digits, width}
use Rattle.lf_number.proofs.digits.put_digits.Given as goal

abbrev pub invariant-loop-rest : goal.invariant-loop-rest
invariant-loop-rest l = record {
  room : width l.radix l.rest + 1 ≤ l.at;
  most : l.at ≤ l.end;
  size : length l.buffer ≡ length l.initial.buffer;
  whole : digits l.radix l.rest ++ drop l.at l.buffer ≡ digits l.radix l.number ++ drop l.end l.initial.buffer;
}

abbrev pub decreases-loop-rest : goal.decreases-loop-rest
decreases-loop-rest l = l.rest
