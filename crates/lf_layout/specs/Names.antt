-- Names of months, by their letters.
use Rattle.std.specs.Prelude.{ℕ, zero, suc, ◌+◌, Option, None, Some, Bool, cond, ◌&&◌, ◌==◌}
use Rattle.lf_layout.specs.Texts.{month_letter}

-- the first month from `at` on, among so many, that passes
unfoldable pub first_month : (ℕ → Bool) → ℕ → ℕ → Option ℕ
first_month test zero at = None
first_month test (suc count) at = cond (test at) (Some at) (first_month test count (at + 1))

-- whether the month, from 0, has the three letters
abbrev pub has_letters : ℕ → ℕ → ℕ → ℕ → Bool
has_letters a b c month = (month_letter month 0 == a) && (month_letter month 1 == b) && (month_letter month 2 == c)

-- the number that was found, or 0
abbrev pub found_or_zero : Option ℕ → ℕ
found_or_zero None = 0
found_or_zero (Some month) = month

-- the month with the three letters, from 0
unfoldable pub month_of_name : ℕ → ℕ → ℕ → ℕ
month_of_name a b c = found_or_zero (first_month (has_letters a b c) 12 0)
