-- What the search keeps. No contract of a public call speaks of these.
use Rattle.std.specs.Prelude.{◌≡◌, ℕ, suc, ◌+◌, ◌*◌, ◌<◌, ◌≤◌, ◌⊎◌, Bool, true, eqb, List, length, slice_index_or, []}
use Rattle.std.specs.List.{Contains, count_by}
use Rattle.lf_core.specs.declared.marked.Move.{Move}
use Rattle.lf_core.specs.Marked.{Machine}
use Rattle.lf_limits.specs.Limits.{most_size}
use Rattle.lf_product.specs.ByteSet.{HasByte}
use Rattle.lf_product.specs.declared.pair.SmallPair.{SmallPair}
use Rattle.lf_product.specs.declared.arrivals.Arrival.{Arrival}
use Rattle.lf_product.specs.Distance.{differed_by, PairStep, Suffices}
use Rattle.lf_product.specs.declared.pages.TheConstants.{PAGE}
use Rattle.lf_product.specs.Pages.{pages_for}
use Rattle.lf_product.specs.Cells.{steps_at}
use Rattle.lf_product.specs.Arcs.{seen, IsSeen, Arrives}

abbrev pub pair : ℕ → ℕ → Bool → SmallPair
pair a b d = record { left = a; right = b; differed = d }

-- the pair waits, in one order of its points
abbrev pub Waits : List SmallPair → ℕ → ℕ → Bool → Type 0
Waits waiting a b d = Contains waiting (pair a b d) ⊎ Contains waiting (pair b a d)

-- A step can lead to the pair: its points are one, or its value is set.
abbrev pub IsAfterSome : ℕ → ℕ → Bool → Type 0
IsAfterSome a b d = (a ≡ b) ⊎ (d ≡ true)

-- Of the distances below none each was reached and is at most top; the pairs of those that are top wait where a step can lead to them, and no others.
pub record Reached (m : Machine) (n none top : ℕ) (ds : List ℕ) (waiting : List SmallPair) : Type 0 where
  pub reached : (a b : ℕ) (d : Bool) → a < n → b < n → steps_at ds a b d < none → Suffices m (steps_at ds a b d) a b d
  pub low : (a b : ℕ) (d : Bool) → a < n → b < n → steps_at ds a b d ≤ none
  pub within : (a b : ℕ) (d : Bool) → a < n → b < n → steps_at ds a b d < none → steps_at ds a b d ≤ top
  pub waits : (a b : ℕ) (d : Bool) → a < n → b < n → IsAfterSome a b d → steps_at ds a b d ≡ top → Waits waiting a b d
  pub waits_left : (p : SmallPair) → Contains waiting p → p.left < n
  pub waits_right : (p : SmallPair) → Contains waiting p → p.right < n
  pub waits_at : (p : SmallPair) → Contains waiting p → Suffices m top p.left p.right p.differed

-- distances that stand stay
pub record Grows (n none : ℕ) (ds es : List ℕ) : Type 0 where
  pub stays : (a b : ℕ) (d : Bool) → a < n → b < n → steps_at ds a b d < none → steps_at es a b d ≡ steps_at ds a b d
  pub same_length : length es ≡ length ds

-- what up to k steps suffice for has its distance
pub record Complete (m : Machine) (n k : ℕ) (ds : List ℕ) : Type 0 where
  pub complete : (a b : ℕ) (d : Bool) (j : ℕ) → a < n → b < n → j ≤ k → Suffices m j a b d → steps_at ds a b d ≤ j

-- from each pair of the level, each pair one step before has a distance
abbrev pub AllBefore : Machine → ℕ → List ℕ → List SmallPair → Type 0
AllBefore m none es level = (p : SmallPair) → Contains level p → (a b : ℕ) (d : Bool) → a < m.count → b < m.count → PairStep m a b d p.left p.right p.differed → steps_at es a b d < none

-- cells without a distance, and pairs that wait
abbrev pub room : ℕ → List ℕ → List SmallPair → ℕ
room none ds waiting = count_by (λ x. eqb x none) ds + length waiting

-- the distances of each two points have their cells
abbrev pub IsWhole : Machine → List ℕ → Type 0
IsWhole m ds = length ds ≡ pages_for m.count * PAGE

-- a pair that so many steps less one suffice for
abbrev pub Follows : Machine → ℕ → SmallPair → Type 0
Follows m steps p = (k : ℕ) × (steps ≡ suc k) × Suffices m k p.left p.right p.differed

-- the arrival's moves lead to the point
abbrev pub LeadsTo : Machine → Bool → Arrival → ℕ → Type 0
LeadsTo m marked x to = (b : ℕ) → b < 256 → HasByte x.bytes b → IsSeen marked (m.moves x.from b) (record { mark = x.mark; to = to })

-- the lists by target are those of the machine
pub record AreArrivals (m : Machine) (marked : Bool) (lists : List (List Arrival)) : Type 0 where
  pub each_point : length lists ≡ m.count
  pub from_below : (to : ℕ) (x : Arrival) → Contains (slice_index_or lists to []) x → x.from < m.count
  pub leads : (to : ℕ) (x : Arrival) → Contains (slice_index_or lists to []) x → LeadsTo m marked x to
  pub all : (from b : ℕ) (x : Move) → Contains (m.moves from b) x → (b < 256) × Arrives lists from (seen marked x) b

-- where both have a byte, a pair one step before the pair by these moves has a distance
abbrev pub IsCovered : ℕ → ℕ → List ℕ → Arrival → Arrival → SmallPair → Type 0
IsCovered n none ds x y p = (b : ℕ) (d : Bool) → b < 256 → HasByte x.bytes b → HasByte y.bytes b → differed_by d (record { mark = x.mark; to = p.left }) (record { mark = y.mark; to = p.right }) ≡ p.differed → steps_at ds x.from y.from d < none

-- each pair one step before the pair has a distance
abbrev pub AreBefore : Machine → ℕ → List ℕ → SmallPair → Type 0
AreBefore m none es p = (a b : ℕ) (d : Bool) → a < m.count → b < m.count → PairStep m a b d p.left p.right p.differed → steps_at es a b d < none

-- where both have a byte, these moves are a step to the pair
abbrev pub StepBy : Machine → Arrival → Arrival → SmallPair → Type 0
StepBy m x y p = (b : ℕ) (d : Bool) → b < 256 → HasByte x.bytes b → HasByte y.bytes b → differed_by d (record { mark = x.mark; to = p.left }) (record { mark = y.mark; to = p.right }) ≡ p.differed → PairStep m x.from y.from d p.left p.right p.differed

-- the lists tell the steps to the pair
pub record Tell (m : Machine) (lists : List (List Arrival)) (p : SmallPair) : Type 0 where
  pub each_point : length lists ≡ m.count
  pub from_below : (to : ℕ) (x : Arrival) → Contains (slice_index_or lists to []) x → x.from < m.count
  pub steps : (x y : Arrival) → Contains (slice_index_or lists p.left []) x → Contains (slice_index_or lists p.right []) y → StepBy m x y p
  pub all : (none : ℕ) (ds : List ℕ) → ((x y : Arrival) → Contains (slice_index_or lists p.left []) x → Contains (slice_index_or lists p.right []) y → IsCovered m.count none ds x y p) → AreBefore m none ds p

-- what holds before a pair is reached in so many steps: a cell for each distance, none greater than the steps, and steps that are a distance
pub record Standing (m : Machine) (none steps : ℕ) (ds : List ℕ) (ws : List SmallPair) : Type 0 where
  pub few : m.count ≤ most_size
  pub small : steps < none
  pub whole : IsWhole m ds
  pub reached : Reached m m.count none steps ds ws

-- what the search keeps within a level, from one moment to another
pub record Going (m : Machine) (none steps : ℕ) (ds : List ℕ) (ws : List SmallPair) (es : List ℕ) (xs : List SmallPair) : Type 0 where
  pub whole : IsWhole m es
  pub reached : Reached m m.count none steps es xs
  pub grows : Grows m.count none ds es
  pub less_room : room none es xs ≤ room none ds ws
