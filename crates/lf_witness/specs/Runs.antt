-- The least runs on a line, in the order of their marks.
use Rattle.std.specs.Prelude.{◌≡◌, ◌≢◌, ℕ, List}
use Rattle.lf_core.specs.declared.marked.Move.{Move}
use Rattle.lf_core.specs.Marked.{Machine}
use Rattle.lf_core.specs.Runs.{RunsToEnd, RunLe}

-- the least run over the line from the point to an end
pub record IsLeastRun (m : Machine) (p : ℕ) (line : List ℕ) (run : List Move) : Type 0 where
  pub runs : RunsToEnd m p line run
  pub least : (other : List Move) → RunsToEnd m p line other → RunLe run other

-- the least of those that differ from this run
pub record IsSecondRun (m : Machine) (p : ℕ) (line : List ℕ) (first run : List Move) : Type 0 where
  pub runs : RunsToEnd m p line run
  pub differs : run ≢ first
  pub least : (other : List Move) → RunsToEnd m p line other → other ≢ first → RunLe run other

-- the two least whole runs on the line
pub record AreLeastRuns (m : Machine) (line : List ℕ) (left right : List Move) : Type 0 where
  pub least : IsLeastRun m m.first line left
  pub second : IsSecondRun m m.first line left right

-- no other run over the line leads from the point to an end
abbrev pub IsOnlyRun : Machine → ℕ → List ℕ → List Move → Type 0
IsOnlyRun m p line run = (other : List Move) → RunsToEnd m p line other → other ≡ run
