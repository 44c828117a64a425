-- Where the second least run leaves the least.
use Rattle.std.specs.Prelude.{ℕ, ◌+◌, ◌<◌, List, ◌∷◌, length, take, drop, Option, None, Some}
use Rattle.lf_core.specs.declared.marked.Move.{Move}
use Rattle.lf_core.specs.Marked.{Machine, stop}
use Rattle.lf_witness.specs.declared.second.Branch.{Branch}
use Rattle.lf_witness.specs.Runs.{IsLeastRun, IsSecondRun, IsOnlyRun}
use Rattle.lf_witness.specs.Sets.{CanEnd}

-- From this place on the second least run takes this move, and then goes on by the least.
pub record IsBranch (m : Machine) (line : List ℕ) (first : List Move) (b : Branch) : Type 0 where
  pub within : b.at < length line
  pub below : b.step.to < m.count
  pub can : CanEnd m (drop (b.at + 1) line) b.step.to
  pub second : (tail : List Move) → IsLeastRun m b.step.to (drop (b.at + 1) line) tail → IsSecondRun m (stop m.first (take b.at first)) (drop b.at line) (drop b.at first) (b.step ∷ tail)

-- From this place of the run on there is no other to an end.
abbrev pub OnlyFrom : Machine → List ℕ → List Move → ℕ → Type 0
OnlyFrom m line first at = IsOnlyRun m (stop m.first (take at first)) (drop at line) (drop at first)

-- With this other move at the place begins the second least run, or there is no other.
abbrev pub IsOtherMove : Machine → List ℕ → List Move → ℕ → Option Move → Type 0
IsOtherMove m line first at None = OnlyFrom m line first at
IsOtherMove m line first at (Some step) = IsBranch m line first (record { at = at; step = step })

-- There is such a place, or no other run.
abbrev pub IsLastBranch : Machine → List ℕ → List Move → Option Branch → Type 0
IsLastBranch m line first None = IsOnlyRun m m.first line first
IsLastBranch m line first (Some b) = IsBranch m line first b
