-- Escapes that the words of several codes are made of.
use Rattle.std.specs.Prelude.{ℕ, ◌/◌, ◌%◌, List, [], ◌∷◌, Bool, nat_le, ◌&&◌}
use Rattle.std.specs.Fmt.{digit_glyph}

-- The two hexadecimal digits of a byte.
abbrev pub hex_digits : Bool → ℕ → List ℕ
hex_digits upper letter = digit_glyph upper (letter / 16) ∷ digit_glyph upper (letter % 16) ∷ []

-- `\x` and two digits.
abbrev pub backslash_hex : Bool → ℕ → List ℕ
backslash_hex upper letter = 92 ∷ 120 ∷ hex_digits upper letter

-- A backslash and the byte.
abbrev pub backslashed : ℕ → List ℕ
backslashed byte = 92 ∷ byte ∷ []

-- A space to a tilde.
abbrev pub is_printable : ℕ → Bool
is_printable letter = nat_le 32 letter && nat_le letter 126
