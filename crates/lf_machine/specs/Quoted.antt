-- The states and steps of a slot with quotes.
use Rattle.std.proofs.Common.{◌≡◌, ℕ, ◌⊎◌, List, [], ◌∷◌, ◌++◌, map, true, false, cond}
use Rattle.lf_escape.specs.Codes.{coded}
use Rattle.lf_machine.specs.Paths.{Step}
use Rattle.lf_machine.specs.Letters.{At, CanStep, IsDone, letters_run}
use Rattle.lf_machine.specs.Unquoted.{Said, nothing, letters, Within, inside, missing, lone, opened, closed, left, wrap, dashed, SlotEmpty, HoldsSaid}
use Rattle.lf_machine.specs.SlotMachine.{SlotMachine}
use Rattle.lf_machine.specs.Parts.{Part}

-- the steps of the quotes
abbrev pub opening : Step Within
opening = record { mark = 0; to = opened }

-- the step over the closing quote
abbrev pub closing : Step Within
closing = record { mark = 1; to = closed }

module _ (sm : SlotMachine) where
  -- nothing may stand between the quotes
  abbrev pub BareQuotes : Type 0
  BareQuotes = SlotEmpty sm

  -- a step into the slot
  abbrev pub QuotedEnter : ℕ → Step Within → Type 0
  QuotedEnter b m = ((b ≡ 34) × (m ≡ opening)) ⊎ ((sm.dash ≡ true) × (b ≡ 45) × (m ≡ dashed))

  -- a step between its states
  abbrev pub QuotedCan : Within → ℕ → Step Within → Type 0
  QuotedCan (inside s) b m = ((k : Step At) × CanStep sm s b k × (m ≡ wrap k)) ⊎ (IsDone sm s × (b ≡ 34) × (m ≡ closing))
  QuotedCan opened b m = ((k : Step At) × CanStep sm (record { point = sm.first; begun = [] }) b k × (m ≡ wrap k)) ⊎ (BareQuotes × (b ≡ 34) × (m ≡ closing))
  QuotedCan missing b m = ⊥
  QuotedCan lone b m = ⊥
  QuotedCan closed b m = ⊥
  QuotedCan (left rest) b m = ⊥

  -- the slot may end
  abbrev pub QuotedDone : Within → Type 0
  QuotedDone missing = Unit {0}
  QuotedDone closed = Unit {0}
  QuotedDone (inside s) = ⊥
  QuotedDone lone = ⊥
  QuotedDone opened = ⊥
  QuotedDone (left rest) = ⊥

  -- the slot holds what is said
  abbrev pub HoldsQuoted : Said → Type 0
  HoldsQuoted v = HoldsSaid (record sm { apart_dash = false }) v

  -- the text of what is said
  abbrev pub quoted_text : Said → List ℕ
  quoted_text nothing = cond sm.dash (45 ∷ []) (34 ∷ 34 ∷ [])
  quoted_text (letters cs) = 34 ∷ (coded sm.word cs ++ 34 ∷ [])

  -- the run of what is said
  abbrev pub quoted_run : Said → List (Step Within)
  quoted_run nothing = cond sm.dash (dashed ∷ []) (opening ∷ closing ∷ [])
  quoted_run (letters cs) = opening ∷ (map wrap (letters_run sm sm.first cs) ++ closing ∷ [])

  -- the slot as a part
  abbrev pub framed_part : Part Within
  framed_part = record { enter = QuotedEnter; can = QuotedCan; done = QuotedDone; empty = ⊥ }
