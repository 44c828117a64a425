-- Steps between states, and paths of steps.
use Rattle.std.specs.Prelude.{◌≡◌, ℕ, ◌<◌, ◌⊎◌, List, [], ◌∷◌}

-- a step of a run: what it is marked with, and where it leads
pub record Step (S : Type 0) : Type 0 where
  pub mark : ℕ
  pub to : S

-- a list of steps, one for each byte, each from the state that the one before reached
abbrev pub IsPath : {S : Type 0} → (S → ℕ → Step S → Type 0) → S → List ℕ → List (Step S) → Type 0
IsPath can s [] [] = Unit {0}
IsPath can s (byte ∷ line) (m ∷ run) = can s byte m × IsPath can m.to line run
IsPath can s [] (m ∷ run) = ⊥
IsPath can s (byte ∷ line) [] = ⊥

-- the state where a path stops
abbrev pub last : {S : Type 0} → S → List (Step S) → S
last s [] = s
last s (m ∷ run) = last m.to run

-- the lesser run has the lesser mark at the first place where they differ; a run is less than one that goes on after it
abbrev pub Before : {S : Type 0} → List (Step S) → List (Step S) → Type 0
Before [] [] = ⊥
Before [] (m ∷ run) = Unit {0}
Before (m ∷ run) [] = ⊥
Before (m ∷ run) (k ∷ other) = (m.mark < k.mark) ⊎ ((m ≡ k) × Before run other)
