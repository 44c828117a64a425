use Rattle.std.proofs.Common.{◌≡◌, ◌-◌, ◌≤◌, ◌++◌, length}
use Rattle.lf_core.specs.Class.{members}
use Rattle.lf_gen.specs.Draws.{drawn_letters, state_after}
use Rattle.lf_gen.proofs.candidate.add_letters.Given as goal

abbrev pub invariant-loop : goal.invariant-loop
invariant-loop l =
    (l.members ≡ length (members l.fn.class)) × (1 ≤ l.members)
    × (l.into ++ drawn_letters l.fn.class (l.fn.count - l.counter) l.state ≡ l.initial.into ++ drawn_letters l.fn.class l.fn.count l.initial.state)
    × (state_after (l.fn.count - l.counter) l.state ≡ state_after l.fn.count l.initial.state)
