use Rattle.std.proofs.Common.{◌≡◌, ℕ, List, ◌++◌, length}
use Rattle.lf_io.specs.Moves.{Gets}
use Rattle.lf_io.proofs.sink.put_all.Given as goal

-- What has been put is a prefix of the text, and the rest is still to put.
abbrev pub invariant-loop-rest : goal.invariant-loop-rest
invariant-loop-rest g l =
    ((part : List ℕ) × (l.text ≡ part ++ l.rest) × Gets (g.K.Sink.got l.initial.sink) (g.K.Sink.got l.sink) part)
    × (g.K.Sink.faults l.sink ≡ g.K.Sink.faults l.initial.sink)

abbrev pub decreases-loop-rest : goal.decreases-loop-rest
decreases-loop-rest g l = length l.rest
