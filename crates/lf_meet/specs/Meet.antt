-- Lists of bytes on which two machines meet, and the least of them.
use Rattle.std.specs.Prelude.{ℕ, List, [], ◌∷◌, Option, None, Some}
use Rattle.lf_core.specs.declared.marked.Move.{Move}
use Rattle.lf_core.specs.Marked.{Machine, IsWholeRun}
use Rattle.lf_product.specs.declared.pair.Pair.{Pair}
use Rattle.lf_product.specs.Walk.{LineLe, SharesAt, IsLeastWord}

-- both machines have a whole run on the line
abbrev pub IsMet : Machine → Machine → List ℕ → Type 0
IsMet m n line = (left : List Move) × (right : List Move) × IsWholeRun m line left × IsWholeRun n line right

-- such a line, and none is less
pub record IsLeastMet (m n : Machine) (line : List ℕ) : Type 0 where
  pub met : IsMet m n line
  pub least : (other : List ℕ) → IsMet m n other → LineLe line other

-- there is no such line
abbrev pub AreApart : Machine → Machine → Type 0
AreApart m n = (line : List ℕ) → IsMet m n line → ⊥

-- the least word that runs from the pair share, if they share one
abbrev pub IsLeastShare : Machine → Pair → Option (List ℕ) → Type 0
IsLeastShare m p None = (word : List ℕ) → SharesAt m word p → ⊥
IsLeastShare m p (Some word) = IsLeastWord m (p ∷ []) word
