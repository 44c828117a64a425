-- Where a byte leads from a set of points, and the ways back.
use Rattle.std.specs.Prelude.{◌≡◌, ℕ, ◌<◌, ◌⊎◌, List, length, slice_index, slice_index_or, Contains}
use Rattle.lf_core.specs.declared.marked.Move.{Move}
use Rattle.lf_core.specs.Marked.{Machine, no_move}
use Rattle.lf_tables.specs.declared.ways.Back.{Back}

-- a way back that stands for none
abbrev pub no_back : Back
no_back = record { before = 0; step = no_move }

abbrev pub back_at : List Back → ℕ → Back
back_at backs k = slice_index_or backs k no_back

-- where the move of a way back leads
abbrev pub to_at : List Back → ℕ → ℕ
to_at backs k = (back_at backs k).step.to

-- one of the ways leads back from the point
abbrev pub HasTo : List Back → ℕ → Type 0
HasTo backs p = (x : Back) × Contains backs x × (x.step.to ≡ p)

-- each way leads back from a point above the one before
abbrev pub IsRising : List Back → Type 0
IsRising backs = (i j : ℕ) → i < j → j < length backs → to_at backs i < to_at backs j

-- a way back stands from each point to which the moves lead, and each new one is by one of these, to the place
pub record GainsMoves (before : ℕ) (moves : List Move) (old new : List Back) : Type 0 where
  pub rising : IsRising new
  pub keeps : (x : Back) → Contains old x → Contains new x
  pub only : (x : Back) → Contains new x → Contains old x ⊎ ((x.before ≡ before) × Contains moves x.step)
  pub all : (y : Move) → Contains moves y → HasTo new y.to

-- A way back, in rising order, from each point to which the byte leads from the first points, so many.
pub record AreWays (machine : Machine) (points : List ℕ) (byte many : ℕ) (backs : List Back) : Type 0 where
  pub rising : IsRising backs
  pub led : (x : Back) → Contains backs x → (x.before < many) × Contains (machine.moves (slice_index points x.before) byte) x.step
  pub all : (k : ℕ) (y : Move) → k < many → Contains (machine.moves (slice_index points k) byte) y → HasTo backs y.to
