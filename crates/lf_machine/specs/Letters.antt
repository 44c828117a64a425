-- Reading letters by their words: a state is a point of the domain's machine and what was read of a word.
use Rattle.std.proofs.Common.{◌≡◌, ℕ, ◌+◌, ◌⊎◌, List, [], ◌∷◌, ◌++◌, None, Some, true}
use Rattle.lf_machine.specs.Paths.{Step}
use Rattle.lf_machine.specs.SlotMachine.{SlotMachine}

-- a point of the domain's machine, and what was read of the next letter's word
pub record At : Type 0 where
  pub point : ℕ
  pub begun : List ℕ

-- a byte inside a word
abbrev pub inner : ℕ → List ℕ → Step At
inner q read = record { mark = 2; to = record { point = q; begun = read } }

-- the last byte of a letter's word
abbrev pub letter_step : ℕ → ℕ → Step At
letter_step c q = record { mark = 3 + c; to = record { point = q; begun = [] } }

module _ (sm : SlotMachine) where
  -- a step over a byte inside a word
  abbrev pub IsInner : At → ℕ → Step At → Type 0
  IsInner s byte m = (c : ℕ) × (r : ℕ) × (rest : List ℕ) × (sm.takes c ≡ true) × (sm.word c ≡ s.begun ++ byte ∷ r ∷ rest) × (m ≡ inner s.point (s.begun ++ byte ∷ []))

  -- a step over the last byte of a letter's word
  abbrev pub IsLetter : At → ℕ → Step At → Type 0
  IsLetter s byte m = (c : ℕ) × (q : ℕ) × (sm.takes c ≡ true) × (sm.word c ≡ s.begun ++ byte ∷ []) × (sm.next s.point c ≡ Some q) × (m ≡ letter_step c q)

  -- a step between states
  abbrev pub CanStep : At → ℕ → Step At → Type 0
  CanStep s byte m = IsInner s byte m ⊎ IsLetter s byte m

  -- the letters may end
  abbrev pub IsDone : At → Type 0
  IsDone s = (s.begun ≡ []) × (sm.ends s.point ≡ true)

  -- the code takes each letter
  abbrev pub AllTaken : List ℕ → Type 0
  AllTaken [] = Unit {0}
  AllTaken (c ∷ cs) = (sm.takes c ≡ true) × AllTaken cs

  -- the steps over the rest of a letter's word
  abbrev pub word_run : ℕ → ℕ → ℕ → List ℕ → List ℕ → List (Step At)
  word_run q after c read [] = []
  word_run q after c read (b ∷ []) = letter_step c after ∷ []
  word_run q after c read (b ∷ d ∷ rest) = inner q (read ++ b ∷ []) ∷ word_run q after c (read ++ b ∷ []) (d ∷ rest)

  -- the steps over the words of letters
  abbrev pub letters_run : ℕ → List ℕ → List (Step At)
  letters_run q [] = []
  letters_run q (c ∷ cs) = elim (sm.next q c) [ None ↦ [] | Some after ↦ word_run q after c [] (sm.word c) ++ letters_run after cs ]
