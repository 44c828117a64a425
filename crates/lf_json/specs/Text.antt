-- The JSON text of a record.
use Rattle.std.specs.Prelude.{ℕ, ◌<◌, ◌==◌, ◌||◌, Bool, ltb, leb, cond, List, [], ◌∷◌, ◌++◌, codes, FitsSigned}
use Rattle.std.specs.List.{flat_map, join_by}
use Rattle.std.specs.Int.{w64}
use Rattle.std.specs.Str.{is_utf8}
use Rattle.hex.specs.Hex.{encode_lower, IsBytes}
use Rattle.lf_core.specs.declared.values.Value.{Value}
use Rattle.lf_core.specs.declared.values.Value.TheVariants.{Missing, Num, Text, Moment, Day, Clock}
use Rattle.lf_number.specs.Numbers.{number_text}
use Rattle.lf_layout.specs.Calendar.{IsDay, civil_date}
use Rattle.lf_layout.specs.Layouts.{IsMoment, layout_text}
use Rattle.lf_layout.specs.Texts.{clock_text, iso_date_text}
use Rattle.lf_time.specs.TimeLayouts.{json_layout}

-- the byte that stands behind a backslash, or 0 where the byte has no such escape
abbrev pub escape_letter : ℕ → ℕ
escape_letter b =
    cond (b == 34 || b == 92) b
    (cond (b == 8) 98
    (cond (b == 12) 102
    (cond (b == 10) 110
    (cond (b == 13) 114
    (cond (b == 9) 116 0)))))

-- whether a byte has an escape
abbrev pub is_escaped : ℕ → Bool
is_escaped b = ltb b 32 || (b == 34 || b == 92)

-- what stands in a string for a byte: a quote, a backslash and five controls have an escape of one letter, and the other controls one of two digits
unfoldable pub json_letter : ℕ → List ℕ
json_letter b =
    cond (escape_letter b == 0)
    (cond (leb 32 b) (b ∷ []) (codes "\\u00" ++ encode_lower (b ∷ [])))
    (92 ∷ escape_letter b ∷ [])

-- a string of letters without escapes
abbrev pub bare_string : List ℕ → List ℕ
bare_string letters = 34 ∷ (letters ++ 34 ∷ [])

-- a string
abbrev pub json_string : List ℕ → List ℕ
json_string text = bare_string (flat_map json_letter text)

-- bytes by their hexadecimal digits
abbrev pub hex_object : List ℕ → List ℕ
hex_object bytes = codes "{\"hex\":\"" ++ (encode_lower bytes ++ codes "\"}")

-- a text is a string where its bytes are UTF-8
abbrev pub text_json : List ℕ → List ℕ
text_json bytes = cond (is_utf8 bytes) (json_string bytes) (hex_object bytes)

-- a value's JSON text: moments, days and clocks are strings like `2000-10-10T13:55:36.000-07:00`, `2000-10-10` and `13:55:36`
abbrev pub value_json : Value → List ℕ
value_json Missing = codes "null"
value_json (Num n) = number_text n
value_json (Text bytes) = text_json bytes
value_json (Moment m) = bare_string (layout_text json_layout m)
value_json (Day d) = bare_string (iso_date_text (civil_date d))
value_json (Clock s) = bare_string (clock_text s)

-- The value has a JSON text: moments and days lie in the years 0001 to 9999, and clocks within a day.
abbrev pub HasJson : Value → Type 0
HasJson (Moment m) = IsMoment m
HasJson (Day d) = IsDay d
HasJson (Clock s) = s < 86400
HasJson v = Unit {0}

-- A value as a program holds it: numbers have 64 bits, and texts are bytes.
abbrev pub IsStored : Value → Type 0
IsStored (Num n) = FitsSigned w64 n
IsStored (Text bytes) = IsBytes bytes
IsStored v = Unit {0}

-- the values after the first, each with a comma before it
abbrev pub others_text : List Value → List ℕ
others_text others = flat_map (λ v. 44 ∷ value_json v) others

-- a record's JSON text: an array without spaces
abbrev pub json_text : List Value → List ℕ
json_text rec = 91 ∷ (join_by value_json (44 ∷ []) rec ++ 93 ∷ [])
