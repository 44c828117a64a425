-- Parts in a row: their states and steps, and the run of their values.
use Rattle.std.proofs.Common.{ℕ, ◌+◌, ◌⊎◌, List, [], ◌∷◌, ◌++◌}
use Rattle.lf_machine.specs.Paths.{Step}
use Rattle.lf_machine.specs.Parts.{Part, both, joined}

-- What parts in a row are made of: P is a part, S a state within one, V a value that one prints.
pub record Row (P S V : Type 0) : Type 1 where
  pub part : P → Part S
  -- how many marks a part's steps have
  pub marks : P → ℕ
  -- a value that a part holds, its text and its run
  pub Holds : P → V → Type 0
  pub text : P → V → List ℕ
  pub run : P → V → List (Step S)

module _ {P S V : Type 0} (row : Row P S V) where
  -- a state of the row: one of the first part, or of the others
  abbrev pub State : List P → Type 0
  State [] = ⊥
  State (p ∷ ps) = S ⊎ State ps

  -- how many marks the steps of parts have
  abbrev pub marks_of : List P → ℕ
  marks_of [] = 0
  marks_of (p ∷ ps) = row.marks p + marks_of ps

  -- the parts, one after another
  abbrev pub rest : (ps : List P) → Part (State ps)
  rest [] = record { enter = λ byte m. ⊥; can = λ s byte m. ⊥; done = λ s. ⊥; empty = Unit {0} }
  rest (p ∷ ps) = both (marks_of ps) (row.part p) (rest ps)

  -- one value for each part, in order, and each is held
  abbrev pub Filled : List P → List V → Type 0
  Filled [] [] = Unit {0}
  Filled [] (v ∷ vs) = ⊥
  Filled (p ∷ ps) [] = ⊥
  Filled (p ∷ ps) (v ∷ vs) = row.Holds p v × Filled ps vs

  -- the text of the values
  abbrev pub line : List P → List V → List ℕ
  line [] vs = []
  line (p ∷ ps) [] = []
  line (p ∷ ps) (v ∷ vs) = row.text p v ++ line ps vs

  -- the run of the values
  abbrev pub row_run : (ps : List P) → List V → List (Step (State ps))
  row_run [] vs = []
  row_run (p ∷ ps) [] = []
  row_run (p ∷ ps) (v ∷ vs) = joined (marks_of ps) (row.run p v) (row_run ps vs)
