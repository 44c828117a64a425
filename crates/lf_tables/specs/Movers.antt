-- The points from which a byte leads somewhere, and the ways back from those of them that are in a set.
use Rattle.std.specs.Prelude.{◌≡◌, ℕ, ◌<◌, ◌⊎◌, List, length, slice_index, Contains}
use Rattle.lf_core.specs.declared.marked.Move.{Move}
use Rattle.lf_core.specs.Marked.{Machine}
use Rattle.lf_tables.specs.declared.ways.Back.{Back}
use Rattle.lf_tables.specs.Ways.{HasTo, IsRising}
use Rattle.lf_tables.specs.Tabled.{set_at}

-- Of the first points of the machine, so many, just those from which the byte leads somewhere, and maybe more.
pub record AreMovers (machine : Machine) (byte many : ℕ) (points : List ℕ) : Type 0 where
  pub low : (p : ℕ) → Contains points p → p < many
  pub all : (p : ℕ) (y : Move) → p < many → Contains (machine.moves p byte) y → Contains points p

-- by class, the points from which its first byte leads somewhere
abbrev pub AreMoversByClass : Machine → List ℕ → List (List ℕ) → Type 0
AreMoversByClass machine firsts lists = (length lists ≡ length firsts)
    × ((k : ℕ) → k < length firsts → AreMovers machine (slice_index firsts k) machine.count (set_at lists k))

-- Ways back are added from each point to which the byte leads from the point, where it is one of the points.
pub record GainsFrom (machine : Machine) (points : List ℕ) (byte p : ℕ) (old new : List Back) : Type 0 where
  pub rising : IsRising new
  pub keeps : (x : Back) → Contains old x → Contains new x
  pub only : (x : Back) → Contains new x → Contains old x ⊎ ((x.before < length points) × Contains (machine.moves (slice_index points x.before) byte) x.step)
  pub all : (k : ℕ) (y : Move) → k < length points → slice_index points k ≡ p → Contains (machine.moves p byte) y → HasTo new y.to

-- A way back, in rising order, from each point to which the byte leads from those of the points that are movers.
pub record AreWaysOf (machine : Machine) (points : List ℕ) (byte : ℕ) (movers : List ℕ) (backs : List Back) : Type 0 where
  pub rising : IsRising backs
  pub led : (x : Back) → Contains backs x → (x.before < length points) × Contains (machine.moves (slice_index points x.before) byte) x.step
  pub all : (k : ℕ) (y : Move) → k < length points → Contains movers (slice_index points k) → Contains (machine.moves (slice_index points k) byte) y → HasTo backs y.to
