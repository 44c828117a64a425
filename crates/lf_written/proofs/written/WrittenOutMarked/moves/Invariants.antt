use Rattle.std.proofs.Common.{◌≡◌, take}
use Rattle.lf_written.proofs.written.WrittenOutMarked.moves.Given as goal

abbrev pub invariant-loop-step : goal.invariant-loop-step
invariant-loop-step g l = l.into.items ≡ take l.step-index l.step-items
