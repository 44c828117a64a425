use Rattle.std.proofs.Common.{◌≡◌, ◌≤◌, length}
use Rattle.lf_core.specs.Class.{members_below}
use Rattle.lf_core.proofs.class.Class.nth.Given as goal

abbrev pub invariant-loop-b : goal.invariant-loop-b
invariant-loop-b l = (l.lesser ≡ length (members_below l.self l.b)) × (l.lesser ≤ l.n)
