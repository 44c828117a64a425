-- Reading step by step.
use Rattle.std.proofs.Common.{◌≡◌, ◌≢◌, ℕ, suc, ◌+◌, List, [], ◌∷◌, length, cond, Some, None, option_map, option_and_then, String, Global, map, ◌⊎◌, inl, inr, refl, sym, ap, ◌∙◌, arith}
use Rattle.std.specs.Prelude.{Result, Ok, Err, IfErr, codes, IsUtf8}
use Rattle.std.specs.Str.{is_utf8}
use Rattle.std.proofs.lemmas.Bool.{cases_Bool}
use Rattle.std.proofs.lemmas.Str.{IsUtf8-from_is_utf8, is_utf8-from_IsUtf8}
use Rattle.serde_json.specs.Data.{Data, null, boolean, number, string, array, object, Members}
use Rattle.serde_json.specs.Find.{as_array, as_object, as_str, get, get_member}
use Rattle.serde_json.specs.Read.{read}
use Rattle.serde_json.specs.View.{view, items_of, items_view, members_view}
use Rattle.serde_json.specs.declared.value.Value.{Value as Json}
use Rattle.lf_core.specs.declared.values.Value.{Value}
use Rattle.lf_format.specs.declared.slot.Slot.{Slot}
use Rattle.lf_json.specs.declared.bad_record.BadRecord.{BadRecord}
use Rattle.lf_json.specs.declared.bad_record.BadRecord.TheVariants.{WrongValue, OutOfMemory}
use Rattle.lf_format.specs.declared.format.Piece.{Piece}
use Rattle.lf_format.specs.declared.format.Piece.TheVariants as piece
use Rattle.lf_format.specs.Keeps.{slots_in}
use Rattle.lf_format.specs.Lines.{IsRecordOf}
use Rattle.lf_json.specs.Reading.{values_in, json_of, array_of, hex_digits, StandsFor, StandForAll, IsWrongFrom, ReadsArray, ReadsJson}

pub json_of-text : (line : List ℕ) → IsUtf8 line → json_of line ≡ read line
unfolding json_of
json_of-text line u = ap (λ b. cond b (read line) None) (is_utf8-from_IsUtf8 line u)

pub json_of-none : (line : List ℕ) → (IsUtf8 line → read line ≡ None) → json_of line ≡ None
unfolding json_of
json_of-none line h = elim (cases_Bool (is_utf8 line)) [
  | inl t ↦ ap (λ b. cond b (read line) None) t ∙ h (IsUtf8-from_is_utf8 line t)
  | inr f ↦ ap (λ b. cond b (read line) None) f
]

pub values_in-items_of : (ds : List Data) → values_in (items_of ds) ≡ ds
values_in-items_of [] = refl
values_in-items_of (d ∷ ds) = ap (λ l. d ∷ l) (values_in-items_of ds)

abbrev Entry : Type 0
Entry = String Global × Json

pub hex_digits-other : (es : List Entry) → length es ≢ 1 → hex_digits (members_view es) ≡ None
hex_digits-other [] other = refl
hex_digits-other (e ∷ []) other = absurd (other refl)
hex_digits-other (e ∷ f ∷ es) other = refl

pub hex_digits-one : (es : List Entry) → length es ≡ 1 → hex_digits (members_view es) ≡ option_and_then as_str (get_member (codes "hex") (members_view es))
hex_digits-one [] one = absurd (omega (arith, one))
hex_digits-one (e ∷ []) one = refl
hex_digits-one (e ∷ f ∷ es) one = absurd (omega (arith, one))

pub get-object : (d : Data) (ms : Members) (name : List ℕ) → Some ms ≡ as_object d → get name d ≡ get_member name ms
get-object null ms name e = absurd (cc)
get-object (boolean b) ms name e = absurd (cc)
get-object (number n) ms name e = absurd (cc)
get-object (string s) ms name e = absurd (cc)
get-object (array ds) ms name e = absurd (cc)
get-object (object found) ms name e = let same : found ≡ ms = cc in ap (get_member name) same

-- the first wrong slot, seen from the slot before
pub wrong_later : (first : ℕ) (slot : Slot) (slots all : List Slot) (json : Data) (jsons every : List Data) (r : Result (Unit {0}) BadRecord)
    → all ≡ slot ∷ slots → every ≡ json ∷ jsons → ((v : Value) × StandsFor slot json v)
    → IfErr r (λ bad. (bad ≡ OutOfMemory) ⊎ IsWrongFrom (first + 1) slots jsons bad) → IfErr r (λ bad. (bad ≡ OutOfMemory) ⊎ IsWrongFrom first all every bad)
wrong_later first slot slots all json jsons every (Ok x) es ej some h = h
wrong_later first slot slots all json jsons every (Err bad) es ej some h = elim h [
  | inl memory ↦ inl memory
  | inr w ↦
      let number : first + 1 + (w.0 + 1) ≡ first + (suc w.0 + 1) = omega arith in
      inr (rw (es, ej) (suc w.0, w.1 ∙ ap WrongValue number, (some, w.2)))
]

pub array_of-items : (line : List ℕ) (d : Data) (vs : List Json) → json_of line ≡ Some d → Some (items_view vs) ≡ as_array d → array_of line ≡ Some (map view vs)
array_of-items line d vs e f =
    ap (λ o. option_map values_in (option_and_then as_array o)) e ∙ ap (option_map values_in) (sym f) ∙ ap Some (values_in-items_of (map view vs))

pub reads-array : (pieces : List Piece) (line : List ℕ) (jsons : List Data) (answer : Result (List Value) BadRecord)
    → array_of line ≡ Some jsons → ReadsArray (slots_in pieces) jsons answer → ReadsJson pieces line answer
reads-array pieces line jsons answer e h = rw e h

-- values that stand for the slots' are a record of the pieces
pub IsRecordOf-StandForAll : (pieces : List Piece) (jsons : List Data) (rec : List Value) → StandForAll (slots_in pieces) jsons rec → IsRecordOf pieces rec
IsRecordOf-StandForAll [] [] [] h = tt
IsRecordOf-StandForAll [] [] (v ∷ rec) h = absurd h
IsRecordOf-StandForAll [] (json ∷ jsons) rec h = absurd h
IsRecordOf-StandForAll (piece.Literal bytes ∷ pieces) jsons rec h = IsRecordOf-StandForAll pieces jsons rec h
IsRecordOf-StandForAll (piece.Slot slot ∷ pieces) [] rec h = absurd h
IsRecordOf-StandForAll (piece.Slot slot ∷ pieces) (json ∷ jsons) [] h = absurd h
IsRecordOf-StandForAll (piece.Slot slot ∷ pieces) (json ∷ jsons) (v ∷ rec) h = (h.0.held, IsRecordOf-StandForAll pieces jsons rec h.1)

pub if_bad : {T : Type 0} (r : Result T BadRecord) (P Q : BadRecord → Type 0) → ((bad : BadRecord) → P bad → Q bad)
    → IfErr r (λ bad. (bad ≡ OutOfMemory) ⊎ P bad) → IfErr r (λ bad. (bad ≡ OutOfMemory) ⊎ Q bad)
if_bad (Ok x) P Q f h = h
if_bad (Err bad) P Q f h = elim h [ inl memory ↦ inl memory | inr p ↦ inr (f bad p) ]
