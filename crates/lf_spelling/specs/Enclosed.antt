-- A part between two brackets at the start of a text, or none.
use Rattle.std.specs.Prelude.{◌≡◌, ℕ, ◌==◌, not, Bool, true, false, List, [], ◌∷◌, ◌++◌, Option, Some, None, IfSome, if◌then◌else◌}
use Rattle.std.specs.List.{list_all}
use Rattle.lf_spelling.specs.Runs.{run, past}
use Rattle.lf_spelling.specs.Texts.{is_nothing, without_first}

-- any byte but this one
abbrev pub is_not : ℕ → ℕ → Bool
is_not closing b = not (b == closing)

-- The part holds no closing bracket.
abbrev pub HoldsNo : ℕ → Option (List ℕ) → Type 0
HoldsNo closing part = IfSome part (λ p. list_all (is_not closing) p ≡ true)

-- the part between its brackets, or nothing
abbrev pub enclosed : ℕ → ℕ → Option (List ℕ) → List ℕ
enclosed opening closing None = []
enclosed opening closing (Some part) = opening ∷ (part ++ closing ∷ [])

-- A bracket is opened, and none closed after it.
abbrev pub is_unclosed : ℕ → ℕ → List ℕ → Bool
is_unclosed opening closing [] = false
is_unclosed opening closing (b ∷ text) = if b == opening then is_nothing (past (is_not closing) text) else false

-- what stands between the opening bracket and the first closing one
abbrev pub part_of : ℕ → ℕ → List ℕ → Option (List ℕ)
part_of opening closing [] = None
part_of opening closing (b ∷ text) = if b == opening then Some (run (is_not closing) text) else None

-- what follows the part and its closing bracket
abbrev pub after_part : ℕ → ℕ → List ℕ → List ℕ
after_part opening closing [] = []
after_part opening closing (b ∷ text) = if b == opening then without_first (past (is_not closing) text) else b ∷ text

-- The text is taken apart into this part and what follows it.
pub record IsPart (opening closing : ℕ) (text : List ℕ) (part : Option (List ℕ)) (rest : List ℕ) : Type 0 where
  pub part_is : part_of opening closing text ≡ part
  pub rest_is : after_part opening closing text ≡ rest
  pub shut : is_unclosed opening closing text ≡ false
