use Rattle.lf_map.proofs.Parted.{Parted}
use Rattle.lf_map.proofs.parts.part_length.Given as goal

abbrev pub invariant-loop-i : goal.invariant-loop-i
invariant-loop-i l = Parted l.text l.i l.mode
