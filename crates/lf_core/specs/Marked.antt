-- Marked machines, and runs over byte lists.
use Rattle.std.specs.Prelude.{◌≡◌, ℕ, ◌<◌, ◌≤◌, List, [], ◌∷◌, Bool, true, All, Contains}
use Rattle.lf_core.specs.declared.marked.Move.{Move}

-- A machine over bytes whose moves carry marks. Its points are the numbers below `count`.
pub record Machine : Type 0 where
  pub count : ℕ
  pub first : ℕ
  pub moves : ℕ → ℕ → List Move
  pub is_end : ℕ → Bool

-- a move that stands for none
abbrev pub no_move : Move
no_move = record { mark = 0; to = 0 }

-- A list of moves, one for each byte, each from the point that the one before reached.
abbrev pub IsRun : (ℕ → ℕ → List Move) → ℕ → List ℕ → List Move → Type 0
IsRun moves point [] [] = Unit {0}
IsRun moves point (byte ∷ line) (m ∷ run) = Contains (moves point byte) m × IsRun moves m.to line run
IsRun moves point [] (m ∷ run) = ⊥
IsRun moves point (byte ∷ line) [] = ⊥

-- the point where a run from the point stops
abbrev pub stop : ℕ → List Move → ℕ
stop point [] = point
stop point (m ∷ run) = stop m.to run

-- A run from the start to an end.
abbrev pub IsWholeRun : Machine → List ℕ → List Move → Type 0
IsWholeRun machine line run =
    IsRun machine.moves machine.first line run × (machine.is_end (stop machine.first run) ≡ true)

-- No element stands twice.
abbrev pub NoneTwice : {A : Type 0} → List A → Type 0
NoneTwice [] = Unit {0}
NoneTwice (x ∷ xs) = (Contains xs x → ⊥) × NoneTwice xs

-- What each machine keeps: the start and the ends of moves are points, no move is listed twice,
-- and a number that is no byte has no move.
pub record IsMachine (machine : Machine) : Type 0 where
  pub begins : machine.first < machine.count
  pub once : (point byte : ℕ) → point < machine.count → NoneTwice (machine.moves point byte)
  pub stays : (point byte : ℕ) → point < machine.count → All (λ m. m.to < machine.count) (machine.moves point byte)
  pub bytes : (point byte : ℕ) → point < machine.count → 256 ≤ byte → machine.moves point byte ≡ []
