-- What a narrowing makes of the pieces of a format, or its first fault.
use Rattle.std.specs.Prelude.{◌≡◌, ◌≢◌, ℕ, ◌+◌, ◌<◌, ◌≤◌, ◌==◌, ◌⊎◌, Bool, true, cond, List, [], ◌∷◌, length, Option, None, Some, IfSome, Result, Ok, Err}
use Rattle.std.specs.Option.{unwrap_or}
use Rattle.lf_syntax.specs.Places.{FaultPlace}
use Rattle.lf_syntax.specs.Grammar.{Sentence}
use Rattle.lf_syntax.specs.Cuts.{cuts}
use Rattle.lf_format.specs.declared.slot.Slot.{Slot as OneSlot}
use Rattle.lf_format.specs.declared.format.Piece.{Piece}
use Rattle.lf_format.specs.declared.format.Piece.TheVariants.{Literal, Slot}
use Rattle.lf_format.specs.Keeps.{HoldsSome, slots_in}
use Rattle.lf_format.specs.Shape.{Shape}
use Rattle.lf_narrow.specs.declared.fault.NarrowFault.{NarrowFault}
use Rattle.lf_narrow.specs.declared.fault.NarrowRefused.{NarrowRefused}
use Rattle.lf_narrow.specs.declared.fault.NarrowFault.TheVariants.{Syntax, NoSlot, WrongKind, Empty, OutOfMemory}
use Rattle.lf_narrow.specs.Narrowing.{term, narrowing}
use Rattle.lf_narrow.specs.Terms.{term_of}
use Rattle.lf_narrow.specs.Effects.{narrowed_slot}

-- what a rule leaves of a slot, where it acts on the slot's domain
abbrev pub Effect : Type 0
Effect = OneSlot → Option OneSlot

-- whether a term for this slot, or for all where it is none, speaks of the slot of the number
abbrev pub is_named : Option ℕ → ℕ → Bool
is_named None k = true
is_named (Some n) k = n == k

-- the slot of the number, after the term
abbrev pub slot_after : Option ℕ → Effect → ℕ → OneSlot → OneSlot
slot_after named effect k slot = cond (is_named named k) (unwrap_or (effect slot) slot) slot

-- the pieces after the term, where the first slot has the number
abbrev pub pieces_after : Option ℕ → Effect → ℕ → List Piece → List Piece
pieces_after named effect k [] = []
pieces_after named effect k (Literal text ∷ pieces) = Literal text ∷ pieces_after named effect k pieces
pieces_after named effect k (Slot slot ∷ pieces) = Slot (slot_after named effect k slot) ∷ pieces_after named effect (k + 1) pieces

-- The slot that the term names is there.
abbrev pub HasSlot : Option ℕ → List Piece → Type 0
HasSlot named pieces = IfSome named (λ k. k ≤ length (slots_in pieces))

-- The rule acts on the slot, if the slot is the one that the term names.
abbrev pub Acts : Option ℕ → Effect → ℕ → OneSlot → Type 0
Acts named effect k slot = named ≡ Some k → effect slot ≢ None

-- The slot has no fault by the term: it holds some value after it.
pub record Stands (named : Option ℕ) (effect : Effect) (k : ℕ) (slot : OneSlot) : Type 0 where
  pub acts : Acts named effect k slot
  pub some : HoldsSome (slot_after named effect k slot)

abbrev pub EachStands : Option ℕ → Effect → ℕ → List Piece → Type 0
EachStands named effect k [] = Unit {0}
EachStands named effect k (Literal text ∷ pieces) = EachStands named effect k pieces
EachStands named effect k (Slot slot ∷ pieces) = Stands named effect k slot × EachStands named effect (k + 1) pieces

-- The slot of the number has this fault: the rule doesn't act on it though the term names it, or it holds no value after the term.
abbrev pub IsSlotFault : Option ℕ → Effect → ℕ → OneSlot → NarrowFault → Type 0
IsSlotFault named effect k slot (WrongKind n) = (n ≡ k) × (named ≡ Some k) × (effect slot ≡ None)
IsSlotFault named effect k slot (Empty n) = (n ≡ k) × Acts named effect k slot × (HoldsSome (slot_after named effect k slot) → ⊥)
IsSlotFault named effect k slot fault = ⊥

-- The first slot with a fault has this one.
abbrev pub IsFirstFault : Option ℕ → Effect → ℕ → List Piece → NarrowFault → Type 0
IsFirstFault named effect k [] fault = ⊥
IsFirstFault named effect k (Literal text ∷ pieces) fault = IsFirstFault named effect k pieces fault
IsFirstFault named effect k (Slot slot ∷ pieces) fault = IsSlotFault named effect k slot fault ⊎ (Stands named effect k slot × IsFirstFault named effect (k + 1) pieces fault)

-- The term has no fault.
abbrev pub IsFine : Option ℕ → Effect → List Piece → Type 0
IsFine named effect pieces = HasSlot named pieces × EachStands named effect 1 pieces

-- The term has this fault: the slot that it names isn't there, or the first fault of a slot.
abbrev pub IsTermFault : Option ℕ → Effect → List Piece → NarrowFault → Type 0
IsTermFault named effect pieces (NoSlot k) = (named ≡ Some k) × (length (slots_in pieces) < k)
IsTermFault named effect pieces fault = HasSlot named pieces × IsFirstFault named effect 1 pieces fault

-- The part isn't a term, and the whole text's place is answered.
pub record NoTerm (text part : List ℕ) (answer : Result (List Piece) NarrowFault) : Type 0 where
  pub none : Sentence term part → ⊥
  pub place : ℕ
  pub at : FaultPlace (Sentence narrowing) text place
  pub is : answer ≡ Err (Syntax place)

-- The part is a term, and its fault is answered.
pub record Fails (part : List ℕ) (pieces : List Piece) (answer : Result (List Piece) NarrowFault) : Type 0 where
  pub a_term : Sentence term part
  pub fault : NarrowFault
  pub has_fault : IsTermFault (term_of part).slot (narrowed_slot (term_of part).rule) pieces fault
  pub is : answer ≡ Err fault

-- The answer of a text of which these parts are left: the pieces after each of them, or the first fault.
abbrev pub Narrows : List ℕ → List (List ℕ) → List Piece → Result (List Piece) NarrowFault → Type 0
Narrows text [] pieces answer = answer ≡ Ok pieces
Narrows text (part ∷ parts) pieces answer =
    NoTerm text part answer
    ⊎ (Fails part pieces answer
    ⊎ (Sentence term part × IsFine (term_of part).slot (narrowed_slot (term_of part).rule) pieces
    × Narrows text parts (pieces_after (term_of part).slot (narrowed_slot (term_of part).rule) 1 pieces) answer))

-- THE MEANING: the text narrows the format to this one
pub record NarrowsTo (format : Shape) (text : List ℕ) (narrowed : Shape) : Type 0 where
  pub pieces : Narrows text (cuts 59 text) format.pieces (Ok narrowed.pieces)
  pub end_is : narrowed.end ≡ format.end
  pub notes_is : narrowed.notes ≡ format.notes

-- The text has this first fault with the format.
abbrev pub IsFaulty : Shape → List ℕ → NarrowFault → Type 0
IsFaulty format text fault = Narrows text (cuts 59 text) format.pieces (Err fault)

-- The text narrows the format to one format, or it has one first fault.
pub record HasOneAnswer (format : Shape) (text : List ℕ) : Type 0 where
  pub some : ((narrowed : Shape) × NarrowsTo format text narrowed) ⊎ ((fault : NarrowFault) × IsFaulty format text fault)
  pub one_format : (a b : Shape) → NarrowsTo format text a → NarrowsTo format text b → a ≡ b
  pub one_fault : (a b : NarrowFault) → IsFaulty format text a → IsFaulty format text b → a ≡ b
  pub not_both : (narrowed : Shape) (fault : NarrowFault) → NarrowsTo format text narrowed → IsFaulty format text fault → ⊥

-- The fault is so, where it isn't want of memory.
abbrev pub IsSo : (NarrowFault → Type 0) → NarrowFault → Type 0
IsSo P OutOfMemory = Unit {0}
IsSo P fault = P fault

-- The part, which begins at this place of the whole text, is no term with its own place further on, or it is a term with this fault.
abbrev pub IsPartFault : ℕ → List ℕ → List Piece → NarrowFault → Type 0
IsPartFault at part pieces (Syntax n) = (place : ℕ) × FaultPlace (Sentence term) part place × (n ≡ at + place)
IsPartFault at part pieces OutOfMemory = Unit {0}
IsPartFault at part pieces fault = Sentence term part × IsTermFault (term_of part).slot (narrowed_slot (term_of part).rule) pieces fault

-- The format is answered, unless memory runs out.
abbrev pub AnswersFormat : Shape → Result Shape NarrowRefused → Type 0
AnswersFormat narrowed (Ok found) = found ≡ narrowed
AnswersFormat narrowed (Err refused) = refused.fault ≡ OutOfMemory

-- The fault is answered, unless memory runs out.
abbrev pub AnswersFault : NarrowFault → Result Shape NarrowRefused → Type 0
AnswersFault fault (Ok found) = ⊥
AnswersFault fault (Err refused) = (refused.fault ≡ fault) ⊎ (refused.fault ≡ OutOfMemory)
