use Rattle.std.proofs.Common.{◌≡◌, ◌-◌, ◌++◌, drop, length}
use Rattle.lf_number.specs.Numbers.{last_digits}
use Rattle.lf_number.specs.Machines.{front}
use Rattle.lf_number.proofs.digits.put_last.Given as goal

abbrev pub invariant-loop-done : goal.invariant-loop-done
invariant-loop-done l = record {
  left : l.rest ≡ front l.radix l.number l.done;
  size : length l.buffer ≡ length l.initial.buffer;
  whole : drop (l.end - l.done) l.buffer ≡ last_digits l.radix l.done l.number ++ drop l.end l.initial.buffer;
}
