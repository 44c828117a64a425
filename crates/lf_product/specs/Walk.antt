-- The least word that two runs share from a level of pairs on.
use Rattle.std.specs.Prelude.{◌≡◌, ℕ, ◌<◌, ◌≤◌, ◌⊎◌, List, [], ◌∷◌, length, Bool, true, Contains}
use Rattle.lf_core.specs.declared.marked.Move.{Move}
use Rattle.lf_core.specs.Marked.{Machine, NoneTwice}
use Rattle.lf_product.specs.declared.pair.Pair.{Pair}
use Rattle.lf_product.specs.Distance.{differed_by, Suffices}

-- of two lists of one length, the first is not above the second by bytes
abbrev pub NotAbove : List ℕ → List ℕ → Type 0
NotAbove [] bs = Unit {0}
NotAbove (a ∷ as') [] = ⊥
NotAbove (a ∷ as') (b ∷ bs) = (a < b) ⊎ ((a ≡ b) × NotAbove as' bs)

-- A line is at most another: it is shorter, or as long and not above it by bytes.
abbrev pub LineLe : List ℕ → List ℕ → Type 0
LineLe as' bs = (length as' < length bs) ⊎ ((length as' ≡ length bs) × NotAbove as' bs)

-- runs over the word lead from a flagged pair to two ends with the value set
abbrev pub Shares : Machine → List ℕ → ℕ → ℕ → Bool → Type 0
Shares m [] a b d = (m.is_end a ≡ true) × (m.is_end b ≡ true) × (d ≡ true)
Shares m (c ∷ cs) a b d =
    (x : Move) × (y : Move) × Contains (m.moves a c) x × Contains (m.moves b c) y × Shares m cs x.to y.to (differed_by d x y)

abbrev pub SharesAt : Machine → List ℕ → Pair → Type 0
SharesAt m cs p = Shares m cs p.left p.right p.differed

-- the same from some pair of the level
abbrev pub SharesFrom : Machine → List Pair → List ℕ → Type 0
SharesFrom m level cs = (p : Pair) × Contains level p × SharesAt m cs p

-- the least word that runs from some pair of the level share
pub record IsLeastWord (m : Machine) (level : List Pair) (word : List ℕ) : Type 0 where
  pub shared : SharesFrom m level word
  pub least : (other : List ℕ) → SharesFrom m level other → LineLe word other

-- so many steps suffice, and no fewer
abbrev pub IsLeast : Machine → ℕ → Pair → Type 0
IsLeast m k p = Suffices m k p.left p.right p.differed × ((j : ℕ) → Suffices m j p.left p.right p.differed → k ≤ j)

-- a pair of one move of each list, from which k steps are the least that suffice
pub record IsNext (m : Machine) (k : ℕ) (lefts rights : List Move) (d : Bool) (p : Pair) : Type 0 where
  pub x : Move
  pub y : Move
  pub on_left : Contains lefts x
  pub on_right : Contains rights y
  pub left_is : p.left ≡ x.to
  pub right_is : p.right ≡ y.to
  pub differed_is : p.differed ≡ differed_by d x y
  pub least : IsLeast m k p

-- the same, of the moves of some pair of a level on a byte
pub record IsNextOf (m : Machine) (k : ℕ) (level : List Pair) (byte : ℕ) (p : Pair) : Type 0 where
  pub from : Pair
  pub listed : Contains level from
  pub next : IsNext m k (m.moves from.left byte) (m.moves from.right byte) from.differed p

-- each is of two points of the machine
pub record AreBelow (m : Machine) (level : List Pair) : Type 0 where
  pub left : (p : Pair) → Contains level p → p.left < m.count
  pub right : (p : Pair) → Contains level p → p.right < m.count

-- what stands k steps before the ends; there is some pair
pub record IsLevel (m : Machine) (k : ℕ) (level : List Pair) : Type 0 where
  pub some : 0 < length level
  pub below : AreBelow m level
  pub each_least : (p : Pair) → Contains level p → IsLeast m k p

-- the least byte with a next pair, and all next pairs, none twice
pub record IsLeastOnward (m : Machine) (k : ℕ) (level : List Pair) (byte : ℕ) (next : List Pair) : Type 0 where
  pub low : byte < 256
  pub some : 0 < length next
  pub from : (p : Pair) → Contains next p → IsNextOf m k level byte p
  pub all : (p : Pair) → IsNextOf m k level byte p → Contains next p
  pub none : (b : ℕ) (p : Pair) → b < byte → IsNextOf m k level b p → ⊥
  pub once : NoneTwice next
