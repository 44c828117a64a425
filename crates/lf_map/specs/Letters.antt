-- What the texts of strings and numbers say, and where a text is cut into assignments.
use Rattle.std.specs.Prelude.{ℕ, ◌+◌, ◌-◌, ◌*◌, ◌/◌, ◌%◌, ◌==◌, Bool, false, cond, min, max, ℤ, pos, neg_ℤ, List, [], ◌∷◌, Option, None, Some}
use Rattle.lf_syntax.specs.Leaf.{is_within, hex_value}
use Rattle.lf_syntax.specs.Cuts.{onto_first}
use Rattle.lf_map.specs.declared.strings.Stage.{Stage}
use Rattle.lf_map.specs.declared.strings.Stage.TheVariants.{Fresh, Slash, Cross, Digit}
use Rattle.lf_map.specs.declared.parts.Mode.{Mode}
use Rattle.lf_map.specs.declared.parts.Mode.TheVariants.{Outside, Inside, Escaped}

-- the number that the text begins with, after the digits of `value`
abbrev pub digits_from : ℕ → List ℕ → ℕ
digits_from value [] = value
digits_from value (d ∷ w) = cond (is_within 48 57 d) (digits_from (10 * value + (d - 48)) w) value

-- That number; none in a map is over the limit.
abbrev pub number_of : ℕ → List ℕ → ℕ
number_of limit text = min (digits_from 0 text) limit

abbrev pub after_digits : List ℕ → List ℕ
after_digits [] = []
after_digits (d ∷ w) = cond (is_within 48 57 d) (after_digits w) (d ∷ w)

-- the number with its sign
abbrev pub int_of : List ℕ → ℤ
int_of [] = pos 0
int_of (b ∷ w) = cond (b == 45) (neg_ℤ (pos (number_of 9223372036854775808 w))) (pos (number_of 9223372036854775807 (b ∷ w)))

-- a divisor, which is 1 at least
abbrev pub divisor_of : List ℕ → ℤ
divisor_of text = pos (max 1 (number_of 9223372036854775807 text))

-- four digits: two of the hours, two of the minutes
abbrev pub minutes_of : List ℕ → ℕ
minutes_of text = min (60 * (number_of 9999 text / 100) + number_of 9999 text % 100) 1439

-- an offset in minutes east
abbrev pub offset_of : List ℕ → ℤ
offset_of [] = pos 0
offset_of (b ∷ w) = cond (b == 45) (neg_ℤ (pos (minutes_of w))) (pos (minutes_of w))

-- the letter that the byte ends: after a backslash the byte itself, after `\x` and a digit the letter of the two digits
abbrev pub letter_by : Stage → ℕ → Option ℕ
letter_by Fresh b = cond (b == 92) None (Some b)
letter_by Slash b = cond (b == 120) None (Some b)
letter_by Cross b = None
letter_by (Digit high) b = Some (min (16 * high + hex_value b) 255)

-- how much of a letter has been read after the byte
abbrev pub stage_after : Stage → ℕ → Stage
stage_after Fresh b = cond (b == 92) Slash Fresh
stage_after Slash b = cond (b == 120) Cross Fresh
stage_after Cross b = Digit (hex_value b)
stage_after (Digit high) b = Fresh

-- whether the byte ends the string
abbrev pub is_end : Stage → ℕ → Bool
is_end Fresh b = b == 34
is_end stage b = false

abbrev pub with_letter : Option ℕ → List ℕ → List ℕ
with_letter None text = text
with_letter (Some letter) text = letter ∷ text

-- the letters of a string up to its closing quote
abbrev pub letters_of : Stage → List ℕ → List ℕ
letters_of stage [] = []
letters_of stage (b ∷ w) = cond (is_end stage b) [] (with_letter (letter_by stage b) (letters_of (stage_after stage b) w))

-- what follows that quote
abbrev pub after_string : Stage → List ℕ → List ℕ
after_string stage [] = []
after_string stage (b ∷ w) = cond (is_end stage b) w (after_string (stage_after stage b) w)

-- whether the text goes on outside of strings, in one, or after a backslash in one
abbrev pub mode_after : Mode → ℕ → Mode
mode_after Outside b = cond (b == 34) Inside Outside
mode_after Inside b = cond (b == 34) Outside (cond (b == 92) Escaped Inside)
mode_after Escaped b = Inside

-- whether the byte is a `;` outside of strings
abbrev pub is_cut : Mode → ℕ → Bool
is_cut Outside b = b == 59
is_cut mode b = false

-- the parts of a text: what stands between each `;` outside of strings
abbrev pub parts_from : Mode → List ℕ → List (List ℕ)
parts_from mode [] = [] ∷ []
parts_from mode (b ∷ w) = cond (is_cut mode b) ([] ∷ parts_from Outside w) (onto_first b (parts_from (mode_after mode b) w))

abbrev pub parts_of : List ℕ → List (List ℕ)
parts_of text = parts_from Outside text

-- the first part, and the text from the `;` after it
abbrev pub front_part : Mode → List ℕ → List ℕ
front_part mode [] = []
front_part mode (b ∷ w) = cond (is_cut mode b) [] (b ∷ front_part (mode_after mode b) w)

abbrev pub after_part : Mode → List ℕ → List ℕ
after_part mode [] = []
after_part mode (b ∷ w) = cond (is_cut mode b) (b ∷ w) (after_part (mode_after mode b) w)
