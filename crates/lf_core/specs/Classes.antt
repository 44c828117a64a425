-- Which bytes the classes have.
use Rattle.std.specs.Prelude.{ℕ, ◌==◌, ◌&&◌, ◌||◌, not, nat_le, Bool}

-- a byte from the first to the last
abbrev pub is_between : ℕ → ℕ → ℕ → Bool
is_between first last b = nat_le first b && nat_le b last

-- a letter of ASCII
abbrev pub is_alphabetic : ℕ → Bool
is_alphabetic b = is_between 65 90 b || is_between 97 122 b

-- a decimal digit
abbrev pub is_digit : ℕ → Bool
is_digit b = is_between 48 57 b

-- `!` to `~`
abbrev pub is_visible : ℕ → Bool
is_visible b = is_between 33 126 b

-- a visible byte, or one that is not ASCII
abbrev pub is_word : ℕ → Bool
is_word b = is_visible b || nat_le 128 b

-- a byte of a word, or a space
abbrev pub is_spaced : ℕ → Bool
is_spaced b = is_word b || (b == 32)

-- a byte of a word, a space or a tab
abbrev pub is_header : ℕ → Bool
is_header b = is_spaced b || (b == 9)

-- any byte but a space
abbrev pub is_no_space : ℕ → Bool
is_no_space b = not (b == 32)

-- a byte of a word, but no `+`
abbrev pub is_iis_word : ℕ → Bool
is_iis_word b = is_word b && not (b == 43)

-- a letter or digit of ASCII, `-`, `_`, `.`, `:`, `~`, `<` or `>`
abbrev pub is_proxy : ℕ → Bool
is_proxy b = is_alphabetic b || is_digit b || (b == 45) || (b == 95) || (b == 46) || (b == 58) || (b == 126) || (b == 60) || (b == 62)

-- a digit or `+`
abbrev pub is_counts : ℕ → Bool
is_counts b = is_digit b || (b == 43)

-- a digit or `.`
abbrev pub is_decimal : ℕ → Bool
is_decimal b = is_digit b || (b == 46)
