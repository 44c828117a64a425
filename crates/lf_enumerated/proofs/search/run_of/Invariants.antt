use Rattle.std.proofs.Common.{◌≡◌, take}
use Rattle.lf_enumerated.proofs.search.run_of.Given as goal

abbrev pub invariant-loop-step : goal.invariant-loop-step
invariant-loop-step l = l.run ≡ take l.step-index l.moves
