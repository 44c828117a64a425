use Rattle.std.proofs.Common.{◌≡◌}
use Rattle.lf_number.specs.Machines.{front}
use Rattle.lf_number.proofs.digits.front.Given as goal

abbrev pub invariant-loop : goal.invariant-loop
invariant-loop l = l.rest ≡ front l.radix l.number l.counter
