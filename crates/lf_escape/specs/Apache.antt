-- The words of Apache's code, which takes every byte.
use Rattle.std.specs.Prelude.{ℕ, List, [], ◌∷◌, false, if◌then◌else◌, ◌==◌}
use Rattle.lf_escape.specs.Escapes.{backslash_hex, backslashed, is_printable}

-- `\"`, `\\`, `\b`, `\n`, `\r`, `\t` and `\v`; others that are not printable are `\x` and two lower-case digits.
abbrev pub apache_word : ℕ → List ℕ
apache_word letter =
    if letter == 34 then backslashed 34 else
    if letter == 92 then backslashed 92 else
    if letter == 8 then backslashed 98 else
    if letter == 10 then backslashed 110 else
    if letter == 13 then backslashed 114 else
    if letter == 9 then backslashed 116 else
    if letter == 11 then backslashed 118 else
    if is_printable letter then letter ∷ [] else
    backslash_hex false letter

-- How many proper prefixes the words have, the empty one counted.
abbrev pub apache_prefixes : ℕ
apache_prefixes = 14
