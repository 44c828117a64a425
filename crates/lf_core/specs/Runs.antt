-- Runs over one line, and their order.
use Rattle.std.specs.Prelude.{◌≡◌, ◌≢◌, ℕ, ◌<◌, ◌⊎◌, List, [], ◌∷◌, true}
use Rattle.lf_core.specs.declared.marked.Move.{Move}
use Rattle.lf_core.specs.Marked.{Machine, IsRun, IsWholeRun, stop}

-- a run over the line from the point that stops at an end
abbrev pub RunsToEnd : Machine → ℕ → List ℕ → List Move → Type 0
RunsToEnd machine point line run = IsRun machine.moves point line run × (machine.is_end (stop point run) ≡ true)

-- two different whole runs stand on the line
abbrev pub IsShared : Machine → List ℕ → Type 0
IsShared machine line =
    (left : List Move) × (right : List Move) × IsWholeRun machine line left × IsWholeRun machine line right × (left ≢ right)

-- the lesser move has the lesser mark, or the same and leads to the lesser point
abbrev pub MoveLt : Move → Move → Type 0
MoveLt m k = (m.mark < k.mark) ⊎ ((m.mark ≡ k.mark) × (m.to < k.to))

-- the move is less, or the same
abbrev pub MoveLe : Move → Move → Type 0
MoveLe m k = MoveLt m k ⊎ (m ≡ k)

-- the lesser run has the lesser move at the first place where they differ; a run is less than one that goes on after it
abbrev pub IsRunLess : List Move → List Move → Type 0
IsRunLess [] [] = ⊥
IsRunLess [] (k ∷ other) = Unit {0}
IsRunLess (m ∷ run) [] = ⊥
IsRunLess (m ∷ run) (k ∷ other) = MoveLt m k ⊎ ((m ≡ k) × IsRunLess run other)

-- the run is less, or the same
abbrev pub RunLe : List Move → List Move → Type 0
RunLe run other = IsRunLess run other ⊎ (run ≡ other)
