-- The plain texts of whole numbers: digits by division.
use Rattle.std.specs.Prelude.{ℕ, zero, suc, ◌+◌, ◌-◌, ◌*◌, ◌/◌, ◌%◌, ◌≤◌, ℤ, pos, negsuc, ◌≤ℤ◌, List, [], ◌∷◌, ◌++◌, length, Bool, true, false, cond, ltb, leb, ◌==◌, ◌&&◌, max, replicate}
use Rattle.std.specs.List.{list_all}
use Rattle.lf_core.specs.declared.values.Value.{Value}
use Rattle.lf_core.specs.declared.values.Value.TheVariants.{Num}

-- the letter of a digit: 0 to 9, and then A to F
unfoldable pub digit_letter : ℕ → ℕ
digit_letter d = cond (ltb d 10) (48 + d) (55 + d)

-- the digit that a letter stands for, and 16 where it stands for none
unfoldable pub digit_of : ℕ → ℕ
digit_of letter =
    cond (leb 48 letter && leb letter 57) (letter - 48) (cond (leb 65 letter && leb letter 70) (letter - 55) 16)

-- a radix whose digits have letters
pub record IsRadix (r : ℕ) : Type 0 where
  pub least : 10 ≤ r
  pub most : r ≤ 16

-- the digits of a number by division, where so many divisions are enough
abbrev pub digits_within : ℕ → ℕ → ℕ → List ℕ
digits_within r zero n = digit_letter n ∷ []
digits_within r (suc k) n =
    cond (ltb n r) (digit_letter n ∷ []) (digits_within r k (n / r) ++ digit_letter (n % r) ∷ [])

-- the digits of a number, without leading zeros
unfoldable pub digits : ℕ → ℕ → List ℕ
digits r n = digits_within r n n

-- how many digits a number has
unfoldable pub width : ℕ → ℕ → ℕ
width r n = length (digits r n)

-- the last j digits of a number
abbrev pub last_digits : ℕ → ℕ → ℕ → List ℕ
last_digits r zero n = []
last_digits r (suc j) n = last_digits r j (n / r) ++ digit_letter (n % r) ∷ []

-- the decimal digits of a number
abbrev pub decimal : ℕ → List ℕ
decimal n = digits 10 n

abbrev pub magnitude : ℤ → ℕ
magnitude (pos n) = n
magnitude (negsuc n) = suc n

abbrev pub is_negative : ℤ → Bool
is_negative (pos n) = false
is_negative (negsuc n) = true

-- the decimal digits, and `-` before a negative number
abbrev pub number_text : ℤ → List ℕ
number_text (pos n) = decimal n
number_text (negsuc n) = 45 ∷ decimal (suc n)

-- zero is `-`
abbrev pub dash_text : ℤ → List ℕ
dash_text n = cond (magnitude n == 0) (45 ∷ []) (number_text n)

-- thousandths: the whole part, a point and three digits
abbrev pub thousandths_text : ℤ → List ℕ
thousandths_text n = decimal (magnitude n / 1000) ++ 46 ∷ last_digits 10 3 (magnitude n)

-- the digits, with leading zeros only up to the width
abbrev pub padded_text : ℕ → ℕ → ℤ → List ℕ
padded_text r least n = replicate (least - width r (magnitude n)) 48 ++ digits r (magnitude n)

-- the value is a number with this property
abbrev pub IsNum : (ℤ → Type 0) → Value → Type 0
IsNum P (Num n) = P n
IsNum P v = ⊥

-- a number's text
abbrev pub num_text : (ℤ → List ℕ) → Value → List ℕ
num_text f (Num n) = f n
num_text f v = []

abbrev pub IsBetween : ℤ → ℤ → ℤ → Type 0
IsBetween lo hi n = (lo ≤ℤ n) × (n ≤ℤ hi)

-- a number from lo to hi
abbrev pub HoldsNumber : ℤ → ℤ → Value → Type 0
HoldsNumber lo hi v = IsNum (IsBetween lo hi) v

-- the digits of the bound with more of them
abbrev pub most_digits : ℤ → ℤ → ℕ
most_digits lo hi = max (width 10 (magnitude lo)) (width 10 (magnitude hi))

-- the size of the numbers of one sign: nine for each digit, and two
abbrev pub half_points : ℤ → ℤ → ℕ
half_points lo hi = 9 * most_digits lo hi + 2

-- the size of a range of numbers, doubled where some are negative
abbrev pub number_size : ℤ → ℤ → ℕ
number_size lo hi = cond (is_negative lo) (2 * half_points lo hi) (half_points lo hi)

-- the size of a range whose zero is a dash
abbrev pub dash_size : ℤ → ℤ → ℕ
dash_size lo hi = half_points lo hi

-- the digits of the whole part of the greater bound
abbrev pub whole_digits : ℤ → ℕ
whole_digits hi = width 10 (magnitude hi / 1000)

-- the size of a range in thousandths
abbrev pub thousandths_size : ℤ → ℕ
thousandths_size hi = 9 * whole_digits hi + 38

-- the greater of the width and the digits of the greater bound
abbrev pub padded_digits : ℕ → ℕ → ℤ → ℕ
padded_digits r least hi = max least (width r (magnitude hi))

-- the size of a range of padded numbers
abbrev pub padded_size : ℕ → ℕ → ℤ → ℕ
padded_size r least hi = 18 * padded_digits r least hi + 2

-- whether a letter is 0 to 9
abbrev pub is_decimal_digit : ℕ → Bool
is_decimal_digit d = leb 48 d && leb d 57

-- whether a text is decimal digits of which the first isn't zero
abbrev pub is_plain_digits : List ℕ → Bool
is_plain_digits [] = false
is_plain_digits (c ∷ cs) = (leb 49 c && leb c 57) && list_all is_decimal_digit cs
