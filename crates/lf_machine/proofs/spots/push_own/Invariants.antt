use Rattle.std.proofs.Common.{◌≡◌, ◌++◌}
use Rattle.lf_machine.specs.Spots.{piece_spots}
use Rattle.lf_machine.proofs.spots.push_own.Given as goal

abbrev pub invariant-loop-point : goal.invariant-loop-point
invariant-loop-point l = l.spots.items ≡ l.initial.spots.items ++ piece_spots l.number l.base l.part l.point
