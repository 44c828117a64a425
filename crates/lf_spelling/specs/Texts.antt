-- The start of a text.
use Rattle.std.specs.Prelude.{ℕ, ◌==◌, ◌&&◌, nat_le, Bool, true, false, List, [], ◌∷◌}

-- a decimal digit
abbrev pub is_digit : ℕ → Bool
is_digit b = nat_le 48 b && nat_le b 57

-- whether no byte is left
abbrev pub is_nothing : List ℕ → Bool
is_nothing [] = true
is_nothing (b ∷ text) = false

-- whether the first byte is this one
abbrev pub begins_with : ℕ → List ℕ → Bool
begins_with c [] = false
begins_with c (b ∷ text) = b == c

-- all but the first byte
abbrev pub without_first : List ℕ → List ℕ
without_first [] = []
without_first (b ∷ text) = text
