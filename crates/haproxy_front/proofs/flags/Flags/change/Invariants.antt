use Rattle.std.proofs.Common.{◌≡◌, cond, Some, None, length}
use Rattle.haproxy_front.specs.Flags.{are_flags, changed}
use Rattle.haproxy_front.proofs.flags.Flags.change.Given as goal

abbrev pub invariant-loop-rest : goal.invariant-loop-rest
invariant-loop-rest l = cond (are_flags l.rest) (Some (changed l.flags l.rest)) None ≡ cond (are_flags l.changes) (Some (changed l.fn.self l.changes)) None

abbrev pub decreases-loop-rest : goal.decreases-loop-rest
decreases-loop-rest l = length l.rest
