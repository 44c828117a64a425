-- The states of a literal, and its one run.
use Rattle.std.proofs.Common.{◌≡◌, ℕ, List, [], ◌∷◌}
use Rattle.lf_machine.specs.Paths.{Step}
use Rattle.lf_machine.specs.Unquoted.{Within, inside, missing, lone, opened, closed, left}
use Rattle.lf_machine.specs.Parts.{Part}

-- the step over a literal's byte, before the bytes that are left
abbrev pub passing : List ℕ → Step Within
passing rest = record { mark = 0; to = left rest }

-- a step over the first of the bytes that are left
abbrev pub LiteralNext : List ℕ → ℕ → Step Within → Type 0
LiteralNext [] b m = ⊥
LiteralNext (x ∷ rest) b m = (b ≡ x) × (m ≡ passing rest)

-- no byte is left
abbrev pub IsOver : List ℕ → Type 0
IsOver [] = Unit {0}
IsOver (x ∷ rest) = ⊥

-- a step from a state of the literal
abbrev pub LiteralCan : Within → ℕ → Step Within → Type 0
LiteralCan (left rest) b m = LiteralNext rest b m
LiteralCan (inside s) b m = ⊥
LiteralCan missing b m = ⊥
LiteralCan lone b m = ⊥
LiteralCan opened b m = ⊥
LiteralCan closed b m = ⊥

-- the literal may end
abbrev pub LiteralDone : Within → Type 0
LiteralDone (left rest) = IsOver rest
LiteralDone (inside s) = ⊥
LiteralDone missing = ⊥
LiteralDone lone = ⊥
LiteralDone opened = ⊥
LiteralDone closed = ⊥

-- the steps over the bytes
abbrev pub literal_run : List ℕ → List (Step Within)
literal_run [] = []
literal_run (x ∷ rest) = passing rest ∷ literal_run rest

-- the literal as a part
abbrev pub literal_part : List ℕ → Part Within
literal_part bytes = record { enter = LiteralNext bytes; can = LiteralCan; done = LiteralDone; empty = IsOver bytes }
