-- Flagged pairs and their distances.
use Rattle.std.specs.Prelude.{◌≡◌, ℕ, zero, suc, ◌≤◌, List, Bool, true, not, ◌||◌, ◌&&◌, eqb, Option, MatchOption, Contains}
use Rattle.lf_core.specs.declared.marked.Move.{Move}
use Rattle.lf_core.specs.Marked.{Machine}
use Rattle.lf_core.specs.Runs.{IsShared}

-- the value after a move of each: it is set where it was before, or where the moves differ
abbrev pub differed_by : Bool → Move → Move → Bool
differed_by differed x y = differed || not (eqb x.mark y.mark && eqb x.to y.to)

-- One move of each on one byte leads from a flagged pair, two points and a value, to another.
pub record PairStep (machine : Machine) (a b : ℕ) (d : Bool) (a' b' : ℕ) (d' : Bool) : Type 0 where
  pub byte : ℕ
  pub left : Move
  pub right : Move
  pub on_left : Contains (machine.moves a byte) left
  pub on_right : Contains (machine.moves b byte) right
  pub left_to : left.to ≡ a'
  pub right_to : right.to ≡ b'
  pub value : differed_by d left right ≡ d'

-- So many steps lead from a flagged pair to two ends with the value set.
abbrev pub Suffices : Machine → ℕ → ℕ → ℕ → Bool → Type 0
Suffices machine zero a b d = (machine.is_end a ≡ true) × (machine.is_end b ≡ true) × (d ≡ true)
Suffices machine (suc n) a b d =
    (a' : ℕ) × (b' : ℕ) × (d' : Bool) × PairStep machine a b d a' b' d' × Suffices machine n a' b' d'

-- The least number of steps that suffices, or None where no number does.
abbrev pub IsDistance : Machine → ℕ → ℕ → Bool → Option ℕ → Type 0
IsDistance machine a b d steps =
    MatchOption steps ((n : ℕ) → Suffices machine n a b d → ⊥)
    (λ n. Suffices machine n a b d × ((k : ℕ) → Suffices machine k a b d → n ≤ k))

-- Two different whole runs stand on one byte list.
abbrev pub IsAmbiguous : Machine → Type 0
IsAmbiguous machine = (line : List ℕ) × IsShared machine line
