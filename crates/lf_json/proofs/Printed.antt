-- The JSON text of a record is the compact text of an array.
use Rattle.std.proofs.Common.{◌≡◌, ℕ, zero, suc, ◌/◌, ◌%◌, ◌<◌, ◌≤◌, Bool, true, false, cond, ◌&&◌, ltb, List, [], ◌∷◌, ◌++◌, map, get_or, refl, sym, ap, ap₂, ◌∙◌, arith, append_assoc, inl, inr}
use Rattle.std.specs.Prelude.{ℤ, pos, negsuc, codes, FitsSigned}
use Rattle.std.specs.Int.{w64}
use Rattle.std.specs.List.{flat_map}
use Rattle.std.specs.Str.{bytes_eq, is_utf8}
use Rattle.std.proofs.lemmas.Bool.{cases_Bool, and_parts}
use Rattle.std.proofs.lemmas.Bool.Decides.{nat_tests}
use Rattle.std.proofs.lemmas.Slice.Eq.{bytes_eq-Decides}
use Rattle.hex.specs.Hex.{encode_lower, encode_with, lower_digits, IsBytes}
use Rattle.json.specs.Print.{escape, escape_byte, quoted}
use Rattle.serde_json.specs.Data.{Data, null, number, string, array, object, no_members, member}
use Rattle.serde_json.specs.Find.{of_integer}
use Rattle.serde_json.specs.View.{items_of}
use Rattle.serde_json.specs.Written.{compact_text, items_text, number_text as compact_number}
use Rattle.lf_core.specs.declared.values.Value.{Value}
use Rattle.lf_core.specs.declared.values.Value.TheVariants.{Missing, Num, Text, Moment, Day, Clock}
use Rattle.lf_number.specs.Numbers.{number_text}
use Rattle.lf_number.proofs.StdDecimals.{number_text_std}
use Rattle.lf_layout.specs.Calendar.{civil_date}
use Rattle.lf_layout.specs.Layouts.{layout_text}
use Rattle.lf_layout.specs.Texts.{clock_text, iso_date_text}
use Rattle.lf_time.specs.TimeLayouts.{json_layout}
use Rattle.lf_json.proofs.StringLaws.{json_letter-bare}
use Rattle.lf_json.proofs.TimeTexts.{AreBare, bare-moment, bare-day, bare-clock}
use Rattle.lf_json.specs.Text.{bare_string, is_escaped, json_letter, json_string, hex_object, value_json, HasJson, IsStored, others_text, json_text}

-- the JSON value of a value
abbrev pub text_data : Bool → List ℕ → Data
text_data true bytes = string bytes
text_data false bytes = object (member (codes "hex") (string (encode_lower bytes)) no_members)

abbrev pub data_of : Value → Data
data_of Missing = null
data_of (Num n) = number (of_integer n)
data_of (Text bytes) = text_data (is_utf8 bytes) bytes
data_of (Moment m) = string (layout_text json_layout m)
data_of (Day d) = string (iso_date_text (civil_date d))
data_of (Clock s) = string (clock_text s)

-- ---- letters

abbrev same_below : ℕ → Bool
same_below zero = true
same_below (suc n) = bytes_eq (json_letter n) (escape_byte n) && same_below n

same_at : (n x : ℕ) → same_below n ≡ true → x < n → json_letter x ≡ escape_byte x
same_at zero x e h = absurd (omega arith)
same_at (suc n) x e h =
    let p = and_parts (bytes_eq (json_letter n) (escape_byte n)) (same_below n) e in
    elim (cases_Bool (ltb x n)) [
      | inl t ↦ same_at n x p.1 (grind (arith, nat_tests, t))
      | inr f ↦ let is : x ≡ n = grind (arith, nat_tests, f) in rw is ((bytes_eq-Decides (json_letter n) (escape_byte n)).0 p.0)
    ]

all_same : same_below 93 ≡ true
unfolding json_letter escape_byte encode_with
all_same = refl

same_above : (x : ℕ) → 93 ≤ x → json_letter x ≡ escape_byte x
unfolding json_letter escape_byte
same_above x h = grind (arith, nat_tests)

letter-json : (x : ℕ) → json_letter x ≡ escape_byte x
letter-json x = elim (cases_Bool (ltb x 93)) [ inl t ↦ same_at 93 x all_same (grind (arith, nat_tests, t)) | inr f ↦ same_above x (grind (arith, nat_tests, f)) ]

letters-json : (xs : List ℕ) → flat_map json_letter xs ≡ escape xs
letters-json [] = refl
letters-json (x ∷ xs) = ap₂ (λ a b. a ++ b) (letter-json x) (letters-json xs)

string-json : (xs : List ℕ) → json_string xs ≡ quoted xs
string-json xs = ap (λ l. 34 ∷ (l ++ 34 ∷ [])) (letters-json xs)

-- ---- letters of times stand as they are

bare-escape : (xs : List ℕ) → AreBare xs → escape xs ≡ xs
bare-escape [] h = refl
bare-escape (x ∷ xs) h =
    let bare : is_escaped x ≡ false = grind (arith, nat_tests, h.0, h.1) in
    ap₂ (λ a b. a ++ b) (sym (letter-json x) ∙ json_letter-bare x bare) (bare-escape xs h.2)

bare-json : (xs : List ℕ) → AreBare xs → bare_string xs ≡ quoted xs
bare-json xs h = ap bare_string (sym (bare-escape xs h))

-- ---- hexadecimal digits stand as they are

abbrev bare_below : ℕ → Bool
bare_below zero = true
bare_below (suc n) = bytes_eq (escape_byte (get_or lower_digits n 0)) (get_or lower_digits n 0 ∷ []) && bare_below n

bare_at : (n x : ℕ) → bare_below n ≡ true → x < n → escape_byte (get_or lower_digits x 0) ≡ get_or lower_digits x 0 ∷ []
bare_at zero x e h = absurd (omega arith)
bare_at (suc n) x e h =
    let p = and_parts (bytes_eq (escape_byte (get_or lower_digits n 0)) (get_or lower_digits n 0 ∷ [])) (bare_below n) e in
    elim (cases_Bool (ltb x n)) [
      | inl t ↦ bare_at n x p.1 (grind (arith, nat_tests, t))
      | inr f ↦ let is : x ≡ n = grind (arith, nat_tests, f) in rw is ((bytes_eq-Decides _ _).0 p.0)
    ]

all_bare : bare_below 16 ≡ true
unfolding escape_byte
all_bare = refl

digits-escape : (bytes : List ℕ) → IsBytes bytes → escape (encode_lower bytes) ≡ encode_lower bytes
unfolding encode_with
digits-escape [] h = refl
digits-escape (b ∷ bytes) h =
    let byte : b < 256 = h 0 in
    rw (bare_at 16 (b / 16) all_bare (omega arith), bare_at 16 (b % 16) all_bare (omega arith))
    (ap (λ l. get_or lower_digits (b / 16) 0 ∷ get_or lower_digits (b % 16) 0 ∷ l) (digits-escape bytes (λ i. h (suc i))))

-- ---- values

object-json : (bytes : List ℕ) → IsBytes bytes → hex_object bytes ≡ compact_text (text_data false bytes)
unfolding escape_byte
object-json bytes h =
    ap (λ l. codes "{\"hex\":\"" ++ l) (ap (λ l. l ++ codes "\"}") (sym (digits-escape bytes h)) ∙ sym (append_assoc (escape (encode_lower bytes)) (34 ∷ []) (125 ∷ [])))

text-json : (utf8 : Bool) (bytes : List ℕ) → IsBytes bytes → cond utf8 (json_string bytes) (hex_object bytes) ≡ compact_text (text_data utf8 bytes)
text-json true bytes h = string-json bytes
text-json false bytes h = object-json bytes h

number-json : (n : ℤ) → FitsSigned w64 n → number_text n ≡ compact_number (of_integer n)
number-json (pos n) h = sym (number_text_std (pos n) h)
number-json (negsuc n) h = sym (number_text_std (negsuc n) h)

pub value-json : (v : Value) → HasJson v → IsStored v → value_json v ≡ compact_text (data_of v)
value-json Missing j h = refl
value-json (Num n) j h = number-json n h
value-json (Text bytes) j h = text-json (is_utf8 bytes) bytes h
value-json (Moment m) j h = bare-json (layout_text json_layout m) (bare-moment m j)
value-json (Day d) j h = bare-json (iso_date_text (civil_date d)) (bare-day d j)
value-json (Clock s) j h = bare-json (clock_text s) (bare-clock s j)

-- A list of values with JSON texts.
abbrev pub AreWritable : List Value → Type 0
AreWritable [] = Unit {0}
AreWritable (v ∷ rec) = HasJson v × IsStored v × AreWritable rec

others-json : (rec : List Value) → AreWritable rec → others_text rec ++ 93 ∷ [] ≡ items_text true (items_of (map data_of rec))
others-json [] h = refl
others-json (v ∷ rec) h =
    ap (λ l. 44 ∷ l) (append_assoc (value_json v) (others_text rec) (93 ∷ []) ∙ ap₂ (λ a b. a ++ b) (value-json v h.0 h.1) (others-json rec h.2))

pub record-json : (rec : List Value) → AreWritable rec → json_text rec ≡ compact_text (array (items_of (map data_of rec)))
record-json [] h = refl
record-json (v ∷ rec) h =
    ap (λ l. 91 ∷ l) (append_assoc (value_json v) (others_text rec) (93 ∷ []) ∙ ap₂ (λ a b. a ++ b) (value-json v h.0 h.1) (others-json rec h.2))
