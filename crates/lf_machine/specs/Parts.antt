-- Two parts of a line, one after the other: their states and steps.
use Rattle.std.proofs.Common.{◌≡◌, ℕ, ◌+◌, ◌⊎◌, inl, inr, List, [], ◌∷◌, map}
use Rattle.lf_machine.specs.Paths.{Step, IsPath, last}

-- A part of a line's machine is a literal, a slot or several of them. A run enters it by a step, goes on, and may
-- stop where it is done; it may also be passed over, where it prints nothing.
pub record Part (S : Type 0) : Type 1 where
  pub enter : ℕ → Step S → Type 0
  pub can : S → ℕ → Step S → Type 0
  pub done : S → Type 0
  pub empty : Type 0

-- A whole run of a part over a text.
abbrev pub IsWhole : {S : Type 0} → Part S → List ℕ → List (Step S) → Type 0
IsWhole part [] [] = part.empty
IsWhole part (byte ∷ line) (m ∷ run) = part.enter byte m × IsPath part.can m.to line run × part.done (last m.to run)
IsWhole part [] (m ∷ run) = ⊥
IsWhole part (byte ∷ line) [] = ⊥

-- the steps of the earlier part, whose marks are above those of the later
abbrev pub early : {S T : Type 0} → ℕ → Step S → Step (S ⊎ T)
early above m = record { mark = above + m.mark; to = inl m.to }

-- the steps of the later part
abbrev pub late : {S T : Type 0} → Step T → Step (S ⊎ T)
late m = record { mark = m.mark; to = inr m.to }

-- a run of the first part and then one of the second
abbrev pub joined : {S T : Type 0} → ℕ → List (Step S) → List (Step T) → List (Step (S ⊎ T))
joined above [] rb = map late rb
joined above (a ∷ ra) rb = early above a ∷ joined above ra rb

module _ {S T : Type 0} (above : ℕ) (one : Part S) (two : Part T) where
  -- a step into the parts
  abbrev Enter : ℕ → Step (S ⊎ T) → Type 0
  Enter byte m = ((a : Step S) × one.enter byte a × (m ≡ early above a)) ⊎ (one.empty × (b : Step T) × two.enter byte b × (m ≡ late b))

  -- a step between their states
  abbrev Can : S ⊎ T → ℕ → Step (S ⊎ T) → Type 0
  Can (inl s) byte m = ((a : Step S) × one.can s byte a × (m ≡ early above a)) ⊎ (one.done s × (b : Step T) × two.enter byte b × (m ≡ late b))
  Can (inr t) byte m = (b : Step T) × two.can t byte b × (m ≡ late b)

  -- the line may stop
  abbrev Done : S ⊎ T → Type 0
  Done (inl s) = one.done s × two.empty
  Done (inr t) = two.done t

  -- two parts, one after the other
  abbrev pub both : Part (S ⊎ T)
  both = record { enter = Enter; can = Can; done = Done; empty = one.empty × two.empty }
