-- The points that bytes lead to.
use Rattle.std.specs.Prelude.{◌≡◌, ℕ, ◌<◌, List, [], ◌∷◌, Contains}
use Rattle.lf_core.specs.declared.marked.Move.{Move}
use Rattle.lf_core.specs.Marked.{Machine, IsRun, stop}

-- some run over the bytes leads from one of the points to the point
abbrev pub IsLedTo : Machine → List ℕ → List ℕ → ℕ → Type 0
IsLedTo machine points bytes point =
    (from : ℕ) × Contains points from × (run : List Move) × IsRun machine.moves from bytes run × (stop from run ≡ point)

-- each is a point of the machine
abbrev pub ArePoints : Machine → List ℕ → Type 0
ArePoints machine points = (p : ℕ) → Contains points p → p < machine.count

-- the points are just those to which the bytes lead from the start
pub record AreReached (machine : Machine) (bytes points : List ℕ) : Type 0 where
  pub reached : (p : ℕ) → Contains points p → IsLedTo machine (machine.first ∷ []) bytes p
  pub all : (p : ℕ) → IsLedTo machine (machine.first ∷ []) bytes p → Contains points p
