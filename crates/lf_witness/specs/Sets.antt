-- Sets of points from which the rest of a line leads to an end.
use Rattle.std.specs.Prelude.{◌≡◌, ℕ, ◌+◌, ◌-◌, ◌<◌, ◌≤◌, List, length, drop, Bool, true, false, slice_index_or, Contains, Vec}
use Rattle.std.specs.declared.alloc.Global.{Global}
use Rattle.lf_core.specs.declared.marked.Move.{Move}
use Rattle.lf_core.specs.Marked.{Machine}
use Rattle.lf_core.specs.Runs.{RunsToEnd}

-- some run over the bytes from the point stops at an end
abbrev pub CanEnd : Machine → List ℕ → ℕ → Type 0
CanEnd m line point = (run : List Move) × RunsToEnd m point line run

-- whether the set has the point
abbrev pub has_point : List Bool → ℕ → Bool
has_point set point = slice_index_or set point false

-- some move of the list leads into the set
abbrev pub LeadsInto : List Move → List Bool → Type 0
LeadsInto moves set = (x : Move) × Contains moves x × (has_point set x.to ≡ true)

-- the set has just the points from which the byte leads into the other set
pub record AreBefore (m : Machine) (byte : ℕ) (after set : List Bool) : Type 0 where
  pub each_point : length set ≡ m.count
  pub leads : (p : ℕ) → p < m.count → has_point set p ≡ true → LeadsInto (m.moves p byte) after
  pub all : (p : ℕ) → p < m.count → LeadsInto (m.moves p byte) after → has_point set p ≡ true

-- the set has just the points from which an end is reached over the bytes
pub record AreEnding (m : Machine) (line : List ℕ) (set : List Bool) : Type 0 where
  pub each_point : length set ≡ m.count
  pub reach : (p : ℕ) → p < m.count → has_point set p ≡ true → CanEnd m line p
  pub all : (p : ℕ) → p < m.count → CanEnd m line p → has_point set p ≡ true

-- by number of bytes left, the sets for the rests of a line
pub record AreSets (m : Machine) (line : List ℕ) (sets : List (Vec Bool Global)) : Type 0 where
  pub len : length sets ≡ length line + 1
  pub each : (k : ℕ) (set : Vec Bool Global) → k ≤ length line → set ≡ slice_index_or sets k set → AreEnding m (drop (length line - k) line) set.items

-- the same for a rest of the line: there may be sets for more bytes
pub record SetsFor (m : Machine) (line : List ℕ) (sets : List (Vec Bool Global)) : Type 0 where
  pub len : length line < length sets
  pub each : (k : ℕ) (set : Vec Bool Global) → k ≤ length line → set ≡ slice_index_or sets k set → AreEnding m (drop (length line - k) line) set.items
