-- The states and steps of a slot without quotes.
use Rattle.std.proofs.Common.{◌≡◌, ◌≢◌, ℕ, ◌⊎◌, List, [], ◌∷◌, map, Some, true, false, cond, ◌==◌, ◌&&◌}
use Rattle.lf_core.specs.Domain.{accepts}
use Rattle.lf_escape.specs.Codes.{coded}
use Rattle.lf_machine.specs.Paths.{Step}
use Rattle.lf_machine.specs.Letters.{At, CanStep, IsDone, AllTaken, letters_run}
use Rattle.lf_machine.specs.SlotMachine.{SlotMachine}
use Rattle.lf_machine.specs.Parts.{Part}

-- what a slot says: that its value is missing, or the letters of a plain text
pub data Said : Type 0 where
  nothing : Said
  letters : List ℕ → Said

-- a state of a piece. Of a slot: among its letters, after the dash of absence, after a dash that must go on, after the
-- opening quote, and after the closing quote. Of a literal: before the bytes that are left
pub data Within : Type 0 where
  inside : At → Within
  missing : Within
  lone : Within
  opened : Within
  closed : Within
  left : List ℕ → Within

-- a step among letters as a step of the slot
abbrev pub wrap : Step At → Step Within
wrap k = record { mark = k.mark; to = inside k.to }

-- the marks of steps
abbrev pub marks_in : {S : Type 0} → List (Step S) → List ℕ
marks_in [] = []
marks_in (m ∷ run) = m.mark ∷ marks_in run

-- the step of the dash of absence
abbrev pub dashed : Step Within
dashed = record { mark = 1; to = missing }

module _ (sm : SlotMachine) where
  -- the same for the first step: a dash may have to go on
  abbrev pub wrap_first : Step At → Step Within
  wrap_first k = record { mark = k.mark; to = cond (sm.apart_dash && k.mark == 48) lone (inside k.to) }

  -- a step into the slot: over the dash of absence, or by a letter's first byte
  abbrev pub SlotEnter : ℕ → Step Within → Type 0
  SlotEnter b m =
      ((sm.dash ≡ true) × (b ≡ 45) × (m ≡ dashed))
      ⊎ ((k : Step At) × CanStep sm (record { point = sm.first; begun = [] }) b k × (m ≡ wrap_first k))

  -- a step between its states
  abbrev pub SlotCan : Within → ℕ → Step Within → Type 0
  SlotCan (inside s) b m = (k : Step At) × CanStep sm s b k × (m ≡ wrap k)
  SlotCan missing b m = ⊥
  SlotCan opened b m = ⊥
  SlotCan closed b m = ⊥
  SlotCan (left rest) b m = ⊥
  SlotCan lone b m = (q : ℕ) × (k : Step At) × (sm.next sm.first 45 ≡ Some q) × CanStep sm (record { point = q; begun = [] }) b k × (m ≡ wrap k)

  -- the slot may end
  abbrev pub SlotDone : Within → Type 0
  SlotDone (inside s) = IsDone sm s
  SlotDone missing = Unit {0}
  SlotDone lone = ⊥
  SlotDone opened = ⊥
  SlotDone closed = ⊥
  SlotDone (left rest) = ⊥

  -- the slot may print nothing
  abbrev pub SlotEmpty : Type 0
  SlotEmpty = (sm.blank ≡ true) ⊎ ((sm.apart_blank ≡ false) × (sm.ends sm.first ≡ true))

  -- the slot holds what is said
  abbrev pub HoldsSaid : Said → Type 0
  HoldsSaid nothing = (sm.dash ≡ true) ⊎ (sm.blank ≡ true)
  HoldsSaid (letters cs) = AllTaken sm cs × (accepts sm.next sm.ends sm.first cs ≡ true) × (sm.apart_dash ≡ true → cs ≢ 45 ∷ []) × (sm.apart_blank ≡ true → cs ≢ [])

  -- the text of what is said
  abbrev pub said_text : Said → List ℕ
  said_text nothing = cond sm.dash (45 ∷ []) []
  said_text (letters cs) = coded sm.word cs

  -- a run among letters as one of the slot
  abbrev pub start_run : List (Step At) → List (Step Within)
  start_run [] = []
  start_run (k ∷ ks) = wrap_first k ∷ map wrap ks

  -- the run of what is said
  abbrev pub said_run : Said → List (Step Within)
  said_run nothing = cond sm.dash (dashed ∷ []) []
  said_run (letters cs) = start_run (letters_run sm sm.first cs)

  -- the slot as a part
  abbrev pub plain_part : Part Within
  plain_part = record { enter = SlotEnter; can = SlotCan; done = SlotDone; empty = SlotEmpty }
