-- Sets of bytes.
use Rattle.std.specs.Prelude.{ℕ, zero, suc, ◌-◌, List, [], ◌∷◌, ◌++◌, Bool, cond, ltb, ◌==◌, ◌&&◌}
use Rattle.std.specs.Int.{bit_at}
use Rattle.lf_core.specs.declared.class.Class.{Class}

-- The byte is in the set.
abbrev pub is_member : Class → ℕ → Bool
is_member set b = cond (ltb b 128) (bit_at set.low b == 1) (bit_at set.high (b - 128) == 1)

-- The number is a byte in the set.
abbrev pub is_letter : Class → ℕ → Bool
is_letter set b = ltb b 256 && is_member set b

-- the members below a bound, in rising order
unfoldable pub members_below : Class → ℕ → List ℕ
members_below set zero = []
members_below set (suc b) = members_below set b ++ cond (is_member set b) (b ∷ []) []

-- the members in rising order
abbrev pub members : Class → List ℕ
members set = members_below set 256
