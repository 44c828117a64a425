-- What is written is read back.
use Rattle.std.proofs.Common.{◌≡◌, ℕ, ◌<◌, ◌≤◌, ◌^◌, Bool, true, false, List, [], ◌∷◌, ◌++◌, map, Option, Some, option_map, option_and_then, refl, sym, ap, ◌∙◌, arith, append-nil, ltb-true}
use Rattle.std.specs.Prelude.{ℤ, pos, negsuc, All, codes, IsUtf8, FitsSigned, Ok, nat_lt}
use Rattle.std.specs.Int.{w64}
use Rattle.std.specs.Int.Signed.{mag}
use Rattle.std.specs.Result.{result_ok}
use Rattle.std.specs.Str.{is_utf8, IsAscii}
use Rattle.std.proofs.lemmas.Int.{ints}
use Rattle.std.proofs.lemmas.Bool.{and_parts}
use Rattle.std.proofs.lemmas.Bool.Decides.{nat_tests}
use Rattle.std.proofs.lemmas.Fmt.{IsAscii-signed}
use Rattle.std.proofs.lemmas.List.Elements.{All-head, All-tail}
use Rattle.std.proofs.lemmas.Str.Ascii.{IsAscii-nil, IsAscii-cons}
use Rattle.std.proofs.lemmas.Str.{IsUtf8-append, IsUtf8-from_ascii, IsUtf8-from_is_utf8}
use Rattle.hex.specs.Hex.{encode_lower, lower_digits, IsBytes}
use Rattle.hex.proofs.HexLemmas.{IsAscii-encode_with, decode_of-encode_lower}
use Rattle.json.specs.Token.{Token}
use Rattle.json.specs.Lex.{tokens}
use Rattle.json.specs.Json as json
use Rattle.json.specs.Tree as tree
use Rattle.json.specs.Tree.{json_tokens}
use Rattle.json.specs.Print.{quoted, escape_byte}
use Rattle.json.proofs.Printed.Decimals.{IsNumber-signed_decimal}
use Rattle.json.proofs.Printed.Tokens.{tokens-print}
use Rattle.json.proofs.Printed.Trees.{value-json_tokens, ArePrintable-json_tokens}
use Rattle.json.proofs.Printed.Utf8.{are_ascii, IsUtf8-are_ascii, IsUtf8-quoted}
use Rattle.serde_json.specs.Data.{Data, number, string, array, Items, no_members}
use Rattle.serde_json.specs.Find.{as_array, as_i64, as_str, of_integer}
use Rattle.serde_json.specs.Read.{of_json, of_items, read, max_depth}
use Rattle.serde_json.specs.View.{items_of}
use Rattle.serde_json.specs.Written.{compact_text, items_text, outline, items_outline}
use Rattle.serde_json.proofs.Numbers.{number_of-decimal, number_of-negative}
use Rattle.serde_json.proofs.Texts.{print-outline}
use Rattle.serde_json.proofs.Views.{get_member-put}
use Rattle.lf_core.specs.declared.values.Value.{Value}
use Rattle.lf_core.specs.declared.values.Value.TheVariants.{Missing, Num, Text, Moment, Day, Clock}
use Rattle.lf_layout.specs.Calendar.{civil_date}
use Rattle.lf_layout.specs.Layouts.{layout_text}
use Rattle.lf_layout.specs.Texts.{clock_text, iso_date_text}
use Rattle.lf_time.specs.TimeLayouts.{json_layout}
use Rattle.lf_format.specs.declared.format.Piece.{Piece}
use Rattle.lf_format.specs.declared.format.Piece.TheVariants as piece
use Rattle.lf_format.specs.declared.kind.ValueKind.{ValueKind}
use Rattle.lf_format.specs.declared.kind.ValueKind.TheVariants as sort
use Rattle.lf_format.specs.declared.slot.Slot.{Slot}
use Rattle.lf_format.specs.Keeps.{slots_in}
use Rattle.lf_format.specs.Kinds.{value_kind}
use Rattle.lf_format.specs.Lines.{IsRecordOf}
use Rattle.lf_format.specs.Slots.{Holds}
use Rattle.lf_json.specs.Text.{HasJson, IsStored, json_text}
use Rattle.lf_json.specs.Reading.{bytes_of, values_in, json_of, text_of, StandsFor, StandsForValue, StandForAll, ReadsJson}
use Rattle.lf_json.proofs.Printed.{AreWritable, data_of, text_data, record-json}
use Rattle.lf_json.proofs.Sorts.{IsOfSort, kind_sort, held_json}
use Rattle.lf_json.proofs.TimeTexts.{AreBare, bare-ascii, bare-moment, bare-day, bare-clock}
use Rattle.lf_json.proofs.ReadingLaws.{json_of-text, values_in-items_of, reads-array}

-- ---- the JSON value of a value is read as the value

as_i64-of_integer : (n : ℤ) → FitsSigned w64 n → as_i64 (of_integer n) ≡ Some n
as_i64-of_integer (pos n) h = let t : nat_lt n (2 ^ 63) ≡ true = grind (arith, ints, nat_tests, h) in rw t
as_i64-of_integer (negsuc n) h = refl

text_of-text_data : (utf8 : Bool) (bytes : List ℕ) → IsBytes bytes → text_of (text_data utf8 bytes) ≡ Some bytes
text_of-text_data true bytes h = refl
text_of-text_data false bytes h =
    ap (λ o. option_and_then bytes_of (option_and_then as_str o)) (get_member-put (codes "hex") (string (encode_lower bytes)) no_members)
    ∙ ap result_ok (decode_of-encode_lower bytes h)

text_value : (utf8 : Bool) (bytes : List ℕ) → IsBytes bytes → StandsForValue sort.Text (text_data utf8 bytes) (Text bytes)
text_value true bytes h = refl
text_value false bytes h = ap (option_map Text) (text_of-text_data false bytes h)

value_stands : (s : ValueKind) (v : Value) → IsOfSort s v → IsStored v → StandsForValue s (data_of v) v
value_stands sort.Number (Num n) is h = ap (option_map Num) (as_i64-of_integer n h)
value_stands sort.Text (Text bytes) is h = text_value (is_utf8 bytes) bytes h
value_stands sort.Moment (Moment m) is h = ((is, tt, tt), refl)
value_stands sort.Day (Day d) is h = (is, refl)
value_stands sort.Clock (Clock s) is h = (is, refl)
value_stands s v is h = absurd is

stands : (slot : Slot) (v : Value) → Holds slot v → IsStored v → StandsFor slot (data_of v) v
stands slot Missing held h = record { is = refl; held = held }
stands slot v held h = record { is = value_stands (value_kind slot.kind) v (kind_sort slot.kind v held.0) h; held = held }

stand_for_all : (pieces : List Piece) (rec : List Value) → All IsStored rec → IsRecordOf pieces rec → StandForAll (slots_in pieces) (map data_of rec) rec
stand_for_all [] [] h is = tt
stand_for_all [] (v ∷ rec) h is = absurd is
stand_for_all (piece.Literal text ∷ pieces) rec h is = stand_for_all pieces rec h is
stand_for_all (piece.Slot slot ∷ pieces) [] h is = absurd is
stand_for_all (piece.Slot slot ∷ pieces) (v ∷ rec) h is =
    (stands slot v is.0 (All-head IsStored v rec h), stand_for_all pieces rec (All-tail IsStored v rec h) is.1)

-- ---- a record's values have JSON texts

writable : (pieces : List Piece) (rec : List Value) → All IsStored rec → IsRecordOf pieces rec → AreWritable rec
writable [] [] h is = tt
writable [] (v ∷ rec) h is = absurd is
writable (piece.Literal text ∷ pieces) rec h is = writable pieces rec h is
writable (piece.Slot slot ∷ pieces) [] h is = absurd is
writable (piece.Slot slot ∷ pieces) (v ∷ rec) h is =
    (held_json slot v is.0, All-head IsStored v rec h, writable pieces rec (All-tail IsStored v rec h) is.1)

-- ---- the compact text is read as the JSON value

magnitude_fits : (n : ℤ) → FitsSigned w64 n → mag n < 2 ^ 63
magnitude_fits (pos n) h = omega (arith, ints, h)
magnitude_fits (negsuc n) h = omega (arith, ints, h)

abbrev Good : Data → Type 0
Good d = tree.HasNumbers (outline d) × (tree.depth (outline d) ≤ 1) × (of_json (outline d) ≡ Some d) × IsUtf8 (compact_text d)

number_good : (n : ℤ) → FitsSigned w64 n → Good (number (of_integer n))
number_good (pos n) h =
    let m = magnitude_fits (pos n) h in
    (IsNumber-signed_decimal (pos n) m, omega arith, ap (option_map number) (number_of-decimal n (omega (arith, m))), IsUtf8-from_ascii _ (IsAscii-signed (pos n) m))
number_good (negsuc n) h =
    let m = magnitude_fits (negsuc n) h in
    (IsNumber-signed_decimal (negsuc n) m, omega arith, ap (option_map number) (number_of-negative n m), IsUtf8-from_ascii _ (IsAscii-signed (negsuc n) m))

ascii-from : (xs : List ℕ) → are_ascii xs ≡ true → IsAscii xs
ascii-from [] e = IsAscii-nil
ascii-from (x ∷ xs) e = let p = and_parts (nat_lt x 128) (are_ascii xs) e in IsAscii-cons x xs (ltb-true x 128 p.0) (ascii-from xs p.1)

object-utf8 : (bytes : List ℕ) → IsUtf8 (compact_text (text_data false bytes))
unfolding escape_byte
object-utf8 bytes =
    let digits = IsUtf8-from_ascii (encode_lower bytes) (IsAscii-encode_with lower_digits bytes (ascii-from lower_digits refl)) in
    IsUtf8-append (codes "{\"hex\":") (quoted (encode_lower bytes) ++ 125 ∷ []) (IsUtf8-are_ascii _ refl)
    (IsUtf8-append (quoted (encode_lower bytes)) (125 ∷ []) (IsUtf8-quoted (encode_lower bytes) digits) (IsUtf8-are_ascii _ refl))

string_good : (text : List ℕ) → IsUtf8 text → Good (string text)
string_good text u = (tt, omega arith, refl, IsUtf8-quoted text u)

bare_good : (text : List ℕ) → AreBare text → Good (string text)
bare_good text h = string_good text (IsUtf8-from_ascii text (bare-ascii text h))

text_good : (utf8 : Bool) (bytes : List ℕ) → is_utf8 bytes ≡ utf8 → Good (text_data utf8 bytes)
text_good true bytes e = string_good bytes (IsUtf8-from_is_utf8 bytes e)
text_good false bytes e = ((tt, tt), omega arith, refl, object-utf8 bytes)

value_good : (v : Value) → HasJson v → IsStored v → Good (data_of v)
value_good Missing j h = (tt, omega arith, refl, IsUtf8-are_ascii _ refl)
value_good (Num n) j h = number_good n h
value_good (Text bytes) j h = text_good (is_utf8 bytes) bytes refl
value_good (Moment m) j h = bare_good (layout_text json_layout m) (bare-moment m j)
value_good (Day d) j h = bare_good (iso_date_text (civil_date d)) (bare-day d j)
value_good (Clock s) j h = bare_good (clock_text s) (bare-clock s j)

abbrev GoodItems : Items → Type 0
GoodItems ds = tree.ItemsHaveNumbers (items_outline ds) × (tree.items_depth (items_outline ds) ≤ 1) × (of_items (items_outline ds) ≡ Some ds) × IsUtf8 (items_text true ds)

items_good : (rec : List Value) → AreWritable rec → GoodItems (items_of (map data_of rec))
items_good [] h = (tt, omega arith, refl, IsUtf8-are_ascii _ refl)
items_good (v ∷ rec) h =
    let first = value_good v h.0 h.1 in
    let rest = items_good rec h.2 in (
      (first.0, rest.0),
      omega (arith, first.1, rest.1),
      rw (first.2, rest.2) refl,
      IsUtf8-append (44 ∷ []) (compact_text (data_of v) ++ items_text true (items_of (map data_of rec))) (IsUtf8-are_ascii _ refl)
          (IsUtf8-append (compact_text (data_of v)) (items_text true (items_of (map data_of rec))) first.3 rest.3),
    )

first_utf8 : (rec : List Value) → AreWritable rec → IsUtf8 (items_text false (items_of (map data_of rec)))
first_utf8 [] h = IsUtf8-are_ascii _ refl
first_utf8 (v ∷ rec) h = IsUtf8-append (compact_text (data_of v)) (items_text true (items_of (map data_of rec))) (value_good v h.0 h.1).3 (items_good rec h.2).3

abbrev whole : Option (json.Json × List Token) → Option Data
whole found = option_and_then of_json (option_and_then (λ p. json.if_last p.0 p.1) found)

compact-read : (d : Data) → tree.HasNumbers (outline d) → tree.depth (outline d) ≤ max_depth → of_json (outline d) ≡ Some d → read (compact_text d) ≡ Some d
compact-read d numbers shallow same =
    let ts = json_tokens (outline d) in
    let lexed : tokens (compact_text d) ≡ ts = ap tokens (sym (print-outline d)) ∙ tokens-print ts (ArePrintable-json_tokens (outline d) numbers) in
    ap whole (ap (json.value max_depth) (lexed ∙ sym (append-nil ts)) ∙ value-json_tokens (outline d) max_depth [] shallow) ∙ same

record-read : (rec : List Value) → AreWritable rec → json_of (json_text rec) ≡ Some (array (items_of (map data_of rec)))
record-read rec h =
    let items = items_of (map data_of rec) in
    let good = items_good rec h in
    let utf8 : IsUtf8 (compact_text (array items)) = IsUtf8-append (91 ∷ []) (items_text false items) (IsUtf8-are_ascii _ refl) (first_utf8 rec h) in
    let read_as : read (compact_text (array items)) ≡ Some (array items) = compact-read (array items) good.0 (omega (arith, good.1)) (ap (option_map array) good.2) in
    ap json_of (record-json rec h) ∙ json_of-text (compact_text (array items)) utf8 ∙ read_as

pub gives_back : (pieces : List Piece) (rec : List Value) → All IsStored rec → IsRecordOf pieces rec → ReadsJson pieces (json_text rec) (Ok rec)
gives_back pieces rec h is =
    let array = ap (λ o. option_map values_in (option_and_then as_array o)) (record-read rec (writable pieces rec h is)) ∙ ap Some (values_in-items_of (map data_of rec)) in
    reads-array pieces (json_text rec) (map data_of rec) (Ok rec) array (stand_for_all pieces rec h is)
