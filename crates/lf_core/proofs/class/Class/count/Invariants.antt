use Rattle.std.proofs.Common.{◌≡◌, ◌≤◌, length}
use Rattle.lf_core.specs.Class.{members_below}
use Rattle.lf_core.proofs.class.Class.count.Given as goal

abbrev pub invariant-loop-b : goal.invariant-loop-b
invariant-loop-b l = (l.count ≡ length (members_below l.self l.b)) × (l.count ≤ l.b)
