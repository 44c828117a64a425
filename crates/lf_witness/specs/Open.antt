-- The moves by which a run goes on.
use Rattle.std.specs.Prelude.{◌≡◌, List, Bool, true, Option, None, Some, Contains}
use Rattle.lf_core.specs.declared.marked.Move.{Move}
use Rattle.lf_core.specs.Runs.{MoveLe}
use Rattle.lf_witness.specs.Sets.{has_point}

-- the move leads into the set, and isn't the one that is left out
pub record IsOpen (after : List Bool) (but : Option Move) (x : Move) : Type 0 where
  pub leads : has_point after x.to ≡ true
  pub other : but ≡ Some x → ⊥

-- an open move of the list, and none is less
pub record IsLeast (moves : List Move) (after : List Bool) (but : Option Move) (x : Move) : Type 0 where
  pub listed : Contains moves x
  pub opens : IsOpen after but x
  pub least : (y : Move) → Contains moves y → IsOpen after but y → MoveLe x y

-- the least open move of the list, if there is one
abbrev pub IsLeastOpen : List Move → List Bool → Option Move → Option Move → Type 0
IsLeastOpen moves after but None = (y : Move) → Contains moves y → IsOpen after but y → ⊥
IsLeastOpen moves after but (Some x) = IsLeast moves after but x
