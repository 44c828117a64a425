use Rattle.std.proofs.Common.{◌≡◌, replicate}
use Rattle.lf_gen.proofs.enough.repeated.Given as goal

abbrev pub invariant-loop : goal.invariant-loop
invariant-loop l = l.text ≡ replicate l.counter l.letter
