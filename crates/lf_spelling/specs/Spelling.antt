-- What a text spells, and what is wrong with one that spells nothing.
use Rattle.std.specs.Prelude.{Bool, ◌≡◌, ◌≢◌, ℕ, ◌≤◌, ◌<◌, List, [], ◌∷◌, ◌++◌, ◌⊎◌, length, Result, Ok, Err}
use Rattle.lf_spelling.specs.Items.{Item, text_of, given_of, state_after, Stand}
use Rattle.lf_spelling.specs.Pieces.{pieces_of, slots_of}
use Rattle.lf_format.specs.Shape.{Shape}
use Rattle.lf_format.specs.declared.format.LineEnd.{LineEnd}
use Rattle.lf_format.specs.declared.format.Piece.{Piece}
use Rattle.lf_spelling.specs.declared.fault.Cause.{Cause}
use Rattle.lf_spelling.specs.declared.fault.Cause.TheVariants.{EmptyFormat, TooManySlots}
use Rattle.lf_spelling.specs.declared.fault.FormatFault.{FormatFault}
use Rattle.lf_spelling.specs.declared.fault.FormatFault.TheVariants as fault
use Rattle.std.specs.Global.{Vec}
use Rattle.lf_limits.specs.Limits.{most_slots}

-- The text begins with these items, of at most `most_slots` slots, and the rest follows.
pub record BeginsWith {State : Type 0} (item_is : State → Item State → List ℕ → Type 0) (start : State) (text : List ℕ) (items : List (Item State)) (rest : List ℕ) : Type 0 where
  pub parts : text ≡ text_of items ++ rest
  pub stand : Stand item_is start items rest
  pub few : slots_of (given_of items) ≤ most_slots

-- The text is items joined, and the pieces are theirs.
pub record SpellsPieces {State : Type 0} (item_is : State → Item State → List ℕ → Type 0) (start : State) (text : List ℕ) (pieces : List Piece) : Type 0 where
  pub items : List (Item State)
  pub whole : BeginsWith item_is start text items []
  pub pieces_are : pieces ≡ pieces_of (given_of items)
  pub some : pieces ≢ []

-- The first fault of the text. Before it stand items. At its place no item stands, or one whose slot is the 129th; or the whole text is items that give no piece.
pub data Faulty {State : Type 0} (item_is : State → Item State → List ℕ → Type 0) (fault_is : State → List ℕ → Cause → Type 0) (start : State) (text : List ℕ) (place : ℕ) (cause : Cause) : Type 0 where
  no_item : (items : List (Item State)) (rest : List ℕ) → BeginsWith item_is start text items rest → place ≡ length (text_of items) → fault_is (state_after start items) rest cause → Faulty item_is fault_is start text place cause
  one_too_many : (items : List (Item State)) (item : Item State) (rest : List ℕ) → BeginsWith item_is start text items (item.bytes ++ rest) → place ≡ length (text_of items) → item_is (state_after start items) item rest → most_slots < slots_of (given_of items ++ item.given ∷ []) → cause ≡ TooManySlots → Faulty item_is fault_is start text place cause
  no_piece : (items : List (Item State)) → BeginsWith item_is start text items [] → pieces_of (given_of items) ≡ [] → place ≡ 0 → cause ≡ EmptyFormat → Faulty item_is fault_is start text place cause

-- What reading the pieces of a text answers.
abbrev pub IsPieces : {State : Type 0} → (State → Item State → List ℕ → Type 0) → (State → List ℕ → Cause → Type 0) → State → List ℕ → Result (Vec Piece) FormatFault → Type 0
IsPieces item_is fault_is start text (Ok pieces) = SpellsPieces item_is start text pieces.items
IsPieces item_is fault_is start text (Err (fault.At place cause)) = Faulty item_is fault_is start text place cause
IsPieces item_is fault_is start text (Err fault.OutOfMemory) = Unit {0}

-- The text spells the format: its pieces, and the end and the notes of the front.
pub record Spells {State : Type 0} (item_is : State → Item State → List ℕ → Type 0) (start : State) (end : LineEnd) (notes : Bool) (text : List ℕ) (format : Shape) : Type 0 where
  pub pieces : SpellsPieces item_is start text format.pieces
  pub end_is : format.end ≡ end
  pub notes_is : format.notes ≡ notes

-- What reading a text answers is so.
abbrev pub IsAnswer : {State : Type 0} → (State → Item State → List ℕ → Type 0) → (State → List ℕ → Cause → Type 0) → State → LineEnd → Bool → List ℕ → Result Shape FormatFault → Type 0
IsAnswer item_is fault_is start end notes text (Ok format) = Spells item_is start end notes text format
IsAnswer item_is fault_is start end notes text (Err (fault.At place cause)) = Faulty item_is fault_is start text place cause
IsAnswer item_is fault_is start end notes text (Err fault.OutOfMemory) = Unit {0}

-- The format is answered, unless memory runs out.
abbrev pub AnswersFormat : Shape → Result Shape FormatFault → Type 0
AnswersFormat format (Ok found) = found ≡ format
AnswersFormat format (Err (fault.At place cause)) = ⊥
AnswersFormat format (Err fault.OutOfMemory) = Unit {0}

-- The fault is answered, unless memory runs out.
abbrev pub AnswersFault : ℕ → Cause → Result Shape FormatFault → Type 0
AnswersFault place cause (Ok found) = ⊥
AnswersFault place cause (Err (fault.At at because)) = (at ≡ place) × (because ≡ cause)
AnswersFault place cause (Err fault.OutOfMemory) = Unit {0}

-- A text spells one format, or it has one first fault.
pub record HasOneAnswer {State : Type 0} (item_is : State → Item State → List ℕ → Type 0) (fault_is : State → List ℕ → Cause → Type 0) (start : State) (end : LineEnd) (notes : Bool) (text : List ℕ) : Type 0 where
  pub some : ((format : Shape) × Spells item_is start end notes text format) ⊎ ((place : ℕ) × (cause : Cause) × Faulty item_is fault_is start text place cause)
  pub one_format : (a b : Shape) → Spells item_is start end notes text a → Spells item_is start end notes text b → a ≡ b
  pub one_fault : (p q : ℕ) (a b : Cause) → Faulty item_is fault_is start text p a → Faulty item_is fault_is start text q b → (p ≡ q) × (a ≡ b)
  pub not_both : (format : Shape) (place : ℕ) (cause : Cause) → Spells item_is start end notes text format → Faulty item_is fault_is start text place cause → ⊥
