use Rattle.std.proofs.Common.{◌≡◌, take, true}
use Rattle.std.specs.List.{Contains}
use Rattle.lf_core.specs.declared.marked.Move.{Move}
use Rattle.lf_witness.specs.Sets.{has_point}
use Rattle.lf_witness.proofs.sets.onward.Given as goal

abbrev pub invariant-loop-x : goal.invariant-loop-x
invariant-loop-x l = (y : Move) → Contains (take l.x-index l.moves) y → has_point l.after y.to ≡ true → ⊥
