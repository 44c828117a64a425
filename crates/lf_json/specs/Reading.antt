-- What reading a line of JSON answers.
use Rattle.std.specs.Prelude.{◌≡◌, ◌≢◌, ℕ, ℤ, zero, suc, ◌+◌, List, [], ◌∷◌, ◌++◌, length, cond, codes, Option, Some, None, option_map, option_and_then, MatchOption, Result, Ok, Err}
use Rattle.std.specs.Result.{result_ok}
use Rattle.std.specs.Str.{is_utf8}
use Rattle.hex.specs.Hex.{decode_of}
use Rattle.serde_json.specs.Data.{Data, null, string, object, Items, no_items, item, Members, no_members, member}
use Rattle.serde_json.specs.Find.{as_array, as_i64, as_number, as_str, get_member}
use Rattle.serde_json.specs.Read.{read}
use Rattle.lf_core.specs.Domain.{IsPlainOf}
use Rattle.lf_core.specs.declared.values.Value.{Value}
use Rattle.lf_core.specs.declared.values.Value.TheVariants.{Missing, Num, Text}
use Rattle.lf_layout.specs.Layouts.{HoldsMoment, HoldsDay, HoldsClock, moment_text, day_text, time_text}
use Rattle.lf_time.specs.TimeLayouts.{json_layout}
use Rattle.lf_format.specs.declared.format.Piece.{Piece}
use Rattle.lf_format.specs.declared.kind.ValueKind.{ValueKind}
use Rattle.lf_format.specs.declared.kind.ValueKind.TheVariants as kind
use Rattle.lf_format.specs.declared.slot.Slot.{Slot}
use Rattle.lf_format.specs.Keeps.{slots_in}
use Rattle.lf_format.specs.Kinds.{value_kind}
use Rattle.lf_format.specs.Slots.{Holds}
use Rattle.lf_json.specs.declared.bad_record.BadRecord.{BadRecord}
use Rattle.lf_json.specs.declared.bad_record.BadRecord.TheVariants.{NotJson, WrongCount, WrongValue, OutOfMemory}

-- the JSON values of an array, in order
abbrev pub values_in : Items → List Data
values_in no_items = []
values_in (item json rest) = json ∷ values_in rest

-- the JSON value that a line is, and none where it isn't JSON
unfoldable pub json_of : List ℕ → Option Data
json_of line = cond (is_utf8 line) (read line) None

-- the JSON values of the array that a line is, and none where it isn't JSON or is no array
abbrev pub array_of : List ℕ → Option (List Data)
array_of line = option_map values_in (option_and_then as_array (json_of line))

-- the bytes that hexadecimal digits spell, in either case
abbrev pub bytes_of : List ℕ → Option (List ℕ)
bytes_of digits = result_ok (decode_of digits)

-- the string of an object whose one key is `hex`
abbrev pub hex_digits : Members → Option (List ℕ)
hex_digits no_members = None
hex_digits (member key json no_members) = option_and_then as_str (get_member (codes "hex") (member key json no_members))
hex_digits (member key json (member other more rest)) = None

-- the text of an object: the bytes that its `hex` spells
abbrev pub hex_text : Members → Option (List ℕ)
hex_text found = option_and_then bytes_of (hex_digits found)

-- the text that a JSON value stands for
abbrev pub text_of : Data → Option (List ℕ)
text_of (string text) = Some text
text_of (object found) = hex_text found
text_of json = None

-- the number that a JSON value stands for: an integer within 64 bits, signed; `1.0` stands for none
abbrev pub number_of : Data → Option ℤ
number_of json = option_and_then as_i64 (as_number json)

-- The JSON value is a string, and the string is the text of the held value.
abbrev pub IsStringOf : (Value → Type 0) → (Value → List ℕ) → Data → Value → Type 0
IsStringOf holds text (string letters) v = IsPlainOf holds text letters v
IsStringOf holds text json v = ⊥

-- The JSON value stands for the value of the kind, where that isn't `Missing`.
abbrev pub StandsForPresent : ValueKind → Data → Value → Type 0
StandsForPresent kind.Number json v = option_map Num (number_of json) ≡ Some v
StandsForPresent kind.Text json v = option_map Text (text_of json) ≡ Some v
StandsForPresent kind.Moment json v = IsStringOf (HoldsMoment json_layout) (moment_text json_layout) json v
StandsForPresent kind.Day json v = IsStringOf HoldsDay day_text json v
StandsForPresent kind.Clock json v = IsStringOf HoldsClock time_text json v

-- The JSON value stands for the value of the kind; `null` stands for `Missing`.
abbrev pub StandsForValue : ValueKind → Data → Value → Type 0
StandsForValue sort null v = v ≡ Missing
StandsForValue sort json v = StandsForPresent sort json v

-- The JSON value stands for the value, and the slot holds it.
pub record StandsFor (slot : Slot) (json : Data) (v : Value) : Type 0 where
  pub is : StandsForValue (value_kind slot.kind) json v
  pub held : Holds slot v

-- The JSON value stands for no value that the slot holds.
abbrev pub StandsForNone : Slot → Data → Type 0
StandsForNone slot json = (v : Value) → StandsFor slot json v → ⊥

-- The JSON values stand for the values of the slots, one for each.
abbrev pub StandForAll : List Slot → List Data → List Value → Type 0
StandForAll [] [] [] = Unit {0}
StandForAll (slot ∷ slots) (json ∷ jsons) (v ∷ rec) = StandsFor slot json v × StandForAll slots jsons rec
StandForAll slots jsons rec = ⊥

-- After so many slots whose JSON values stand for values comes one whose JSON value stands for none.
abbrev pub IsFirstWrong : ℕ → List Slot → List Data → Type 0
IsFirstWrong zero (slot ∷ slots) (json ∷ jsons) = StandsForNone slot json
IsFirstWrong (suc before) (slot ∷ slots) (json ∷ jsons) = ((v : Value) × StandsFor slot json v) × IsFirstWrong before slots jsons
IsFirstWrong before slots jsons = ⊥

-- What the JSON values of an array are read as: slots are counted from 1.
abbrev pub ReadsArray : List Slot → List Data → Result (List Value) BadRecord → Type 0
ReadsArray slots jsons (Ok rec) = StandForAll slots jsons rec
ReadsArray slots jsons (Err NotJson) = ⊥
ReadsArray slots jsons (Err (WrongCount n)) = (length jsons ≡ n) × (n ≢ length slots)
ReadsArray slots jsons (Err (WrongValue k)) = (length jsons ≡ length slots) × ((before : ℕ) × (k ≡ before + 1) × IsFirstWrong before slots jsons)
ReadsArray slots jsons (Err OutOfMemory) = ⊥

-- What a line is read as: a record of the pieces, or why it stands for none.
abbrev pub ReadsJson : List Piece → List ℕ → Result (List Value) BadRecord → Type 0
ReadsJson pieces line answer = MatchOption (array_of line) (answer ≡ Err NotJson) (λ jsons. ReadsArray (slots_in pieces) jsons answer)

-- ---- for private clauses

-- It is true of no value.
abbrev pub HasNone : (Value → Type 0) → Type 0
HasNone P = (v : Value) → P v → ⊥

-- What was found is a value of which it is true, and nothing only where it is true of none.
abbrev pub IsFound : (Value → Type 0) → Option Value → Type 0
IsFound P found = MatchOption found (HasNone P) P

-- The values that were added stand for the slots'.
abbrev pub AddsValues : List Value → List Value → List Slot → List Data → Type 0
AddsValues old new slots jsons = (added : List Value) × (new ≡ old ++ added) × StandForAll slots jsons added

-- The first wrong slot, after so many others.
abbrev pub IsWrongFrom : ℕ → List Slot → List Data → BadRecord → Type 0
IsWrongFrom first slots jsons bad = (before : ℕ) × (bad ≡ WrongValue (first + (before + 1))) × IsFirstWrong before slots jsons
