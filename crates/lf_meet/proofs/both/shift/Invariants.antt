use Rattle.std.proofs.Common.{◌≡◌, ℕ, ◌≤◌, map, take, get_or, length}
use Rattle.lf_core.specs.declared.marked.Move.{Move}
use Rattle.lf_meet.specs.Both.{shifted}
use Rattle.lf_meet.proofs.both.shift.Given as goal

abbrev pub invariant-loop-step : goal.invariant-loop-step
invariant-loop-step l =
    (take l.step-index l.moves ≡ map (shifted l.by) (take l.step-index l.fn.moves))
    × ((k : ℕ) (d : Move) → l.step-index ≤ k → get_or l.moves k d ≡ get_or l.fn.moves k d)
    × (length l.moves ≡ length l.fn.moves)
