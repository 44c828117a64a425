-- The least shared line.
use Rattle.std.specs.Prelude.{ℕ, List}
use Rattle.lf_core.specs.Marked.{Machine}
use Rattle.lf_core.specs.Runs.{IsShared}
use Rattle.lf_product.specs.Walk.{LineLe}

-- a shared line, and none is less
pub record IsLeastShared (m : Machine) (line : List ℕ) : Type 0 where
  pub shared : IsShared m line
  pub least : (other : List ℕ) → IsShared m other → LineLe line other
