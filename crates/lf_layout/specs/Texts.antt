-- Texts of dates, times and offsets: fields of a fixed number of digits.
use Rattle.std.specs.Prelude.{ℕ, ◌+◌, ◌-◌, ◌*◌, ◌/◌, ◌%◌, List, [], ◌∷◌, ◌++◌, Bool, true, false, ℤ, pos, negsuc, unsigned_abs, codes, slice_index}
use Rattle.lf_layout.specs.declared.calendar.CivilDate.{CivilDate}

-- the two digits of a number below 100
abbrev pub two : ℕ → List ℕ
two n = (48 + n / 10) ∷ (48 + n % 10) ∷ []

-- the three digits of a number below 1000
abbrev pub three : ℕ → List ℕ
three n = (48 + n / 100) ∷ two (n % 100)

-- the four digits of a number below 10000
abbrev pub four : ℕ → List ℕ
four n = two (n / 100) ++ two (n % 100)

-- a letter of a month's name, where the months and the letters are counted from 0
unfoldable pub month_letter : ℕ → ℕ → ℕ
month_letter month at = slice_index (codes "JanFebMarAprMayJunJulAugSepOctNovDec") (3 * month + at)

-- the three letters of a month, from 1
abbrev pub month_name : ℕ → List ℕ
month_name month = month_letter (month - 1) 0 ∷ month_letter (month - 1) 1 ∷ month_letter (month - 1) 2 ∷ []

-- `2000-10-10`
abbrev pub iso_date_text : CivilDate → List ℕ
iso_date_text date = four date.year ++ 45 ∷ two date.month ++ 45 ∷ two date.day

-- `10/Oct/2000`
abbrev pub named_date_text : CivilDate → List ℕ
named_date_text date = two date.day ++ 47 ∷ month_name date.month ++ 47 ∷ four date.year

-- `13:55:36`, of a second of the day
abbrev pub clock_text : ℕ → List ℕ
clock_text second = two (second / 3600) ++ 58 ∷ two (second / 60 % 60) ++ 58 ∷ two (second % 60)

-- `-` before a negative number, and else `+`
abbrev pub sign_letter : ℤ → ℕ
sign_letter (pos n) = 43
sign_letter (negsuc n) = 45

-- a letter where the test holds
abbrev pub letter_if : Bool → ℕ → List ℕ
letter_if true letter = letter ∷ []
letter_if false letter = []

-- `-0700` or, with a colon, `-07:00`, of minutes
abbrev pub offset_text : Bool → ℤ → List ℕ
offset_text colon offset =
    sign_letter offset ∷ two (unsigned_abs offset / 60) ++ letter_if colon 58 ++ two (unsigned_abs offset % 60)
