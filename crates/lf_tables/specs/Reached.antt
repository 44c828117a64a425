-- Sets of points that byte lists reach.
use Rattle.std.specs.Prelude.{◌≡◌, ℕ, ◌<◌, ◌≤◌, ◌↔◌, List, All}
use Rattle.lf_core.specs.declared.marked.Move.{Move}
use Rattle.lf_core.specs.Marked.{Machine, IsRun, stop}

-- the byte list reaches the point: some run over it from the start stops there
abbrev pub Reaches : Machine → List ℕ → ℕ → Type 0
Reaches machine line point =
    (run : List Move) × IsRun machine.moves machine.first line run × (stop machine.first run ≡ point)

-- both byte lists reach the same set of points
abbrev pub ReachSameSet : Machine → List ℕ → List ℕ → Type 0
ReachSameSet machine left right = (point : ℕ) → Reaches machine left point ↔ Reaches machine right point

-- a list of bytes
abbrev pub AreBytes : List ℕ → Type 0
AreBytes line = All (λ b. b < 256) line

-- More than so many sets of points are reached: there are byte lists, one more than so many, no two of which reach the same set.
pub record ReachesMoreSets (machine : Machine) (many : ℕ) : Type 0 where
  pub line : ℕ → List ℕ
  pub bytes : (i : ℕ) → i ≤ many → AreBytes (line i)
  pub apart : (i j : ℕ) → i < j → j ≤ many → ReachSameSet machine (line i) (line j) → ⊥
