-- What reading by guess and check answers.
use Rattle.std.specs.Prelude.{◌≡◌, ℕ, List, [], ◌∷◌, ◌++◌, Bool, true, false, cond, ◌==◌}
use Rattle.lf_core.specs.declared.values.Value.{Value}
use Rattle.lf_format.specs.declared.format.Piece.{Piece}
use Rattle.lf_format.specs.declared.slot.Slot.{Slot}
use Rattle.lf_format.specs.Lines.{Prints}
use Rattle.lf_escape.specs.Codes.{coded}
use Rattle.lf_escape.specs.Codings.{coding_word}
use Rattle.lf_escape.specs.declared.coding.Coding.{Coding}
use Rattle.lf_format.specs.Kinds.{HoldsKind, plain_text}
use Rattle.lf_format.specs.Slots.{Holds, slot_text}
use Rattle.lf_format.specs.declared.kind.Kind.{Kind}
use Rattle.lf_json.specs.Text.{value_json, json_text}

-- The text is what is written, without quotes, of a value that the domain holds, and then what is left; the value's JSON is added.
pub record ReadsKind (kind : Kind) (code : Coding) (text left old new : List ℕ) : Type 0 where
  pub value : Value
  pub held : HoldsKind kind value
  pub written : text ≡ coded (coding_word code) (plain_text kind value) ++ left
  pub added : new ≡ old ++ value_json value

-- The text is what the slot prints for a value that it holds, and then what is left; the value's JSON is added.
pub record ReadsSlot (slot : Slot) (text left old new : List ℕ) : Type 0 where
  pub value : Value
  pub held : Holds slot value
  pub printed : text ≡ slot_text slot value ++ left
  pub added : new ≡ old ++ value_json value

-- A record prints the line, and its JSON is added.
pub record ReadsLine (pieces : List Piece) (line old new : List ℕ) : Type 0 where
  pub rec : List Value
  pub prints : Prints pieces rec line
  pub added : new ≡ old ++ json_text rec

-- The JSON of values, each with a comma before it but the first, which has this byte, and the end of the array.
abbrev pub tail_json : ℕ → List Value → List ℕ
tail_json before [] = cond (before == 91) (91 ∷ 93 ∷ []) (93 ∷ [])
tail_json before (v ∷ rec) = before ∷ (value_json v ++ tail_json 44 rec)

-- A record prints the rest of a line, and the rest of its array is added.
pub record ReadsRest (pieces : List Piece) (before : ℕ) (line old new : List ℕ) : Type 0 where
  pub rec : List Value
  pub prints : Prints pieces rec line
  pub added : new ≡ old ++ tail_json before rec

-- Whatever reads what is left reads the text, with the piece before it.
abbrev pub Continues : Piece → ℕ → ℕ → List ℕ → List ℕ → List ℕ → List ℕ → Type 0
Continues piece before next text left old mid =
    (pieces : List Piece) (new : List ℕ) → ReadsRest pieces next left mid new → ReadsRest (piece ∷ pieces) before text old new

-- What a line is read as: a record is found, or nothing is added.
abbrev pub IsScan : List Piece → List ℕ → List ℕ → List ℕ → Bool → Type 0
IsScan pieces line old new true = ReadsLine pieces line old new
IsScan pieces line old new false = new ≡ old
