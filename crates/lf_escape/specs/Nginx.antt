-- The words of nginx's two codes, which take every byte.
use Rattle.std.specs.Prelude.{ℕ, List, [], ◌∷◌, true, if◌then◌else◌, nat_lt, ◌==◌, ◌||◌, not}
use Rattle.lf_escape.specs.Escapes.{hex_digits, backslash_hex, backslashed, is_printable}

-- A quote, a backslash and what is not printable are `\x` and two upper-case digits.
abbrev pub nginx_word : ℕ → List ℕ
nginx_word letter =
    if letter == 34 || letter == 92 || not (is_printable letter) then backslash_hex true letter else letter ∷ []

-- `\"`, `\\`, `\n`, `\r`, `\t`, `\b` and `\f`; others below the space are `\u00` and two upper-case digits.
abbrev pub json_word : ℕ → List ℕ
json_word letter =
    if letter == 34 then backslashed 34 else
    if letter == 92 then backslashed 92 else
    if letter == 10 then backslashed 110 else
    if letter == 13 then backslashed 114 else
    if letter == 9 then backslashed 116 else
    if letter == 8 then backslashed 98 else
    if letter == 12 then backslashed 102 else
    if nat_lt letter 32 then 92 ∷ 117 ∷ 48 ∷ 48 ∷ hex_digits true letter else
    letter ∷ []

-- How many proper prefixes the words have, the empty one counted.
abbrev pub nginx_prefixes : ℕ
nginx_prefixes = 16

abbrev pub json_prefixes : ℕ
json_prefixes = 7
