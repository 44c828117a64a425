use Rattle.std.proofs.Common.{◌≡◌}
use Rattle.lf_small_machines.specs.Small.{moves_below}
use Rattle.lf_small_machines.proofs.small_machines.list_moves.Given as goal

abbrev pub invariant-loop-number : goal.invariant-loop-number
invariant-loop-number l = l.into.items ≡ moves_below l.flags l.at l.number
