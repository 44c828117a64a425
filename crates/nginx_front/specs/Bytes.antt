-- The bytes of a directive.
use Rattle.std.specs.Prelude.{ℕ, ◌==◌, ◌||◌, not, Bool, List, [], ◌∷◌, Option, Some, None, if◌then◌else◌}
use Rattle.std.specs.List.{list_any}
use Rattle.nginx_front.specs.Variables.{is_word}

-- space, tab, CR and LF
abbrev pub is_white : ℕ → Bool
is_white b = list_any (λ c. b == c) (32 ∷ 9 ∷ 13 ∷ 10 ∷ [])

-- a byte of a format's name: a letter, a digit, `_`, `-` or `.`
abbrev pub is_name_byte : ℕ → Bool
is_name_byte b = is_word b || (b == 45) || (b == 46)

-- `"` and `'`
abbrev pub is_quote : ℕ → Bool
is_quote b = (b == 34) || (b == 39)

-- white space, `;`, a quote or a backslash
abbrev pub is_special : ℕ → Bool
is_special b = is_white b || list_any (λ c. b == c) (59 ∷ 34 ∷ 39 ∷ 92 ∷ [])

-- a byte of a bare string
abbrev pub is_bare : ℕ → Bool
is_bare b = not (is_special b)

-- what a letter gives by a table of letters and bytes
abbrev pub escape_in : List (ℕ × ℕ) → ℕ → Option ℕ
escape_in [] c = None
escape_in (row ∷ rows) c = if c == row.0 then Some row.1 else escape_in rows c

-- what a backslash in quotes and this byte give: the byte, or a tab, CR or LF
abbrev pub escaped : ℕ → Option ℕ
escaped c = escape_in ((34, 34) ∷ (39, 39) ∷ (92, 92) ∷ (116, 9) ∷ (114, 13) ∷ (110, 10) ∷ []) c
