-- The least witness that a machine has.
use Rattle.std.specs.Prelude.{ℕ, List}
use Rattle.lf_core.specs.declared.marked.Move.{Move}
use Rattle.lf_core.specs.Marked.{Machine}
use Rattle.lf_witness.specs.Runs.{AreLeastRuns}
use Rattle.lf_witness.specs.Shared.{IsLeastShared}

-- a least shared line, and the two least whole runs on it
pub record HasLeast (m : Machine) : Type 0 where
  pub line : List ℕ
  pub left : List Move
  pub right : List Move
  pub least_line : IsLeastShared m line
  pub least_runs : AreLeastRuns m line left right
