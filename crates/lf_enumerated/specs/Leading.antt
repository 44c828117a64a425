-- Runs that begin at the start of a machine.
use Rattle.std.specs.Prelude.{◌≡◌, ℕ, List}
use Rattle.lf_core.specs.declared.marked.Move.{Move}
use Rattle.lf_core.specs.Marked.{Machine, IsRun, stop}

-- The moves are a run over some bytes from the start to the point.
abbrev pub Leads : Machine → List Move → ℕ → Type 0
Leads machine moves point =
    (bytes : List ℕ) × IsRun machine.moves machine.first bytes moves × (stop machine.first moves ≡ point)
