-- What the search has found: sets that are reached, by number.
use Rattle.std.specs.Prelude.{◌≡◌, ℕ, ◌*◌, ◌/◌, ◌%◌, Some, ◌<◌, ◌≤◌, ◌↔◌, List, [], ◌∷◌, length, slice_index, Contains, IfSome}
use Rattle.std.specs.BTreeMap as tree
use Rattle.std.specs.BTreeMap.{BTreeMap}
use Rattle.std.specs.Cmp.Lexicographic.{slice_cmp}
use Rattle.std.specs.Ordering.{nat_cmp}
use Rattle.lf_core.specs.Marked.{Machine}
use Rattle.lf_limits.specs.Limits.{most_sets}
use Rattle.lf_tables.specs.declared.ways.Back.{Back}
use Rattle.lf_tables.specs.Reached.{Reaches, AreBytes}
use Rattle.lf_tables.specs.Tabled.{Cell, set_at, cell_at, IsCell}

-- the points are just those that the line reaches
abbrev pub AreReached : Machine → List ℕ → List ℕ → Type 0
AreReached machine line points = (p : ℕ) → Contains points p ↔ Reaches machine line p

-- No two sets are the same, and each set is found by its points alone.
pub record AreNumbered {K : Type 0} (items : K → List ℕ) (numbers : BTreeMap K ℕ) (sets : List (List ℕ)) : Type 0 where
  pub few : length sets ≤ most_sets
  pub found : (q : K) → IfSome (tree.get (λ x y. slice_cmp nat_cmp (items x) (items y)) numbers q) (λ n. (n < length sets) × (set_at sets n ≡ items q))
  pub each : (q : K) (s : ℕ) → s < length sets → set_at sets s ≡ items q → (n : ℕ) × (tree.get (λ x y. slice_cmp nat_cmp (items x) (items y)) numbers q ≡ Some n)
  pub apart : (s t : ℕ) → s < t → t < length sets → set_at sets s ≡ set_at sets t → ⊥

-- The set has the number; the old sets keep theirs, and a new one is the set.
pub record HasNumber (points : List ℕ) (n : ℕ) (old new : List (List ℕ)) : Type 0 where
  pub low : n < length new
  pub is : set_at new n ≡ points
  pub longer : length old ≤ length new
  pub kept : (s : ℕ) → s < length old → set_at new s ≡ set_at old s
  pub added : (s : ℕ) → length old ≤ s → s < length new → set_at new s ≡ points

-- There are as many sets as there may be, and the set is another one.
pub record HasNoRoom (points : List ℕ) (sets : List (List ℕ)) : Type 0 where
  pub full : length sets ≡ most_sets
  pub other : (s : ℕ) → s < length sets → set_at sets s ≡ points → ⊥

-- the points stand in rising order
abbrev pub AreRising : List ℕ → Type 0
AreRising points = (i j : ℕ) → i < j → j < length points → slice_index points i < slice_index points j

-- Each set is reached by some bytes, and the first cells, so many, lead from the sets on the first bytes of the classes.
pub record AreFound (machine : Machine) (firsts : List ℕ) (sets : List (List ℕ)) (cells : List Cell) (backs : List Back) : Type 0 where
  pub some : 0 < length sets
  pub begins : set_at sets 0 ≡ machine.first ∷ []
  pub reached : (s : ℕ) → s < length sets → (line : List ℕ) × AreBytes line × AreReached machine line (set_at sets s)
  pub rising : (s : ℕ) → s < length sets → AreRising (set_at sets s)
  pub within : length cells ≤ length sets * length firsts
  pub led : (k : ℕ) → k < length cells →
      IsCell machine sets backs (set_at sets (k / length firsts)) (slice_index firsts (k % length firsts)) (cell_at cells k)
