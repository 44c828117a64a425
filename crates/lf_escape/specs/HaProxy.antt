-- The words of HAProxy's codes. The first two take every byte, the third all but the line feed.
use Rattle.std.specs.Prelude.{ℕ, List, [], ◌∷◌, true, if◌then◌else◌, ◌==◌, ◌||◌, not}
use Rattle.lf_escape.specs.Escapes.{hex_digits, backslashed, is_printable}

-- A hash and two upper-case digits.
abbrev pub hash_hex : ℕ → List ℕ
hash_hex letter = 35 ∷ hex_digits true letter

-- `#`, `"` and what is not printable are a hash and two digits.
abbrev pub hash_word : ℕ → List ℕ
hash_word letter =
    if letter == 35 || letter == 34 || not (is_printable letter) then hash_hex letter else letter ∷ []

-- A line feed is a bare bar; `{`, the bar and `}` are a hash and two digits; all else is as without a capture.
abbrev pub capture_word : ℕ → List ℕ
capture_word letter =
    if letter == 10 then 124 ∷ [] else
    if letter == 123 || letter == 124 || letter == 125 then hash_hex letter else
    hash_word letter

-- `"`, `\` and `]` have a backslash before them.
abbrev pub escape_word : ℕ → List ℕ
escape_word letter = if letter == 34 || letter == 92 || letter == 93 then backslashed letter else letter ∷ []

-- How many proper prefixes the words have, the empty one counted.
abbrev pub hash_prefixes : ℕ
hash_prefixes = 14

abbrev pub capture_prefixes : ℕ
capture_prefixes = 14

abbrev pub escape_prefixes : ℕ
escape_prefixes = 2
