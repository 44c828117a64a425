-- The calendar: dates, and the numbers of their days.
use Rattle.std.specs.Prelude.{ℕ, zero, suc, ◌+◌, ◌-◌, ◌*◌, ◌/◌, ◌%◌, ◌≤◌, Bool, not, ◌&&◌, ◌||◌, ◌==◌, nat_lt, if◌then◌else◌, ℤ, pos, neg_ℤ, ◌+ℤ◌, ◌-ℤ◌, ◌≤ℤ◌, unsigned_abs}
use Rattle.lf_layout.specs.declared.calendar.CivilDate.{CivilDate}

-- 4 divides the year and 100 doesn't, or 400 divides it
abbrev pub is_leap : ℕ → Bool
is_leap year = (year % 4 == 0) && not (year % 100 == 0) || (year % 400 == 0)

-- the days of a month, of a leap year or another
abbrev pub days_of_month : Bool → ℕ → ℕ
days_of_month leap month =
    if month == 2 then (if leap then 29 else 28)
    else (if (month == 4) || (month == 6) || (month == 9) || (month == 11) then 30 else 31)

-- the days of a month of the year
abbrev pub month_length : ℕ → ℕ → ℕ
month_length year month = days_of_month (is_leap year) month

-- the days of the first so many months of the year
unfoldable pub days_of_months : ℕ → ℕ → ℕ
days_of_months year zero = 0
days_of_months year (suc months) = days_of_months year months + month_length year (suc months)

-- the days of the years before it
unfoldable pub days_before_year : ℕ → ℕ
days_before_year year = 365 * (year - 1) + (year - 1) / 4 - (year - 1) / 100 + (year - 1) / 400

-- which day of the calendar the date is; 0001-01-01 is the first
abbrev pub day_count : ℕ → ℕ → ℕ → ℕ
day_count year month day = days_before_year year + days_of_months year (month - 1) + day

-- the day number of a date: 0 for 1970-01-01, and negative before it
abbrev pub day_number : CivilDate → ℤ
day_number date = pos (day_count date.year date.month date.day) -ℤ pos 719163

-- The calendar has the day, and its year is at most this.
pub record IsDateUpTo (last year month day : ℕ) : Type 0 where
  pub some_year : 1 ≤ year
  pub year_most : year ≤ last
  pub some_month : 1 ≤ month
  pub month_most : month ≤ 12
  pub some_day : 1 ≤ day
  pub day_most : day ≤ month_length year month

-- A date of the years 0001 to 9999.
abbrev pub IsDate : CivilDate → Type 0
IsDate date = IsDateUpTo 9999 date.year date.month date.day

-- the day after
abbrev pub next_date : CivilDate → CivilDate
next_date date =
    if nat_lt date.day (month_length date.year date.month)
    then record { year = date.year; month = date.month; day = date.day + 1 }
    else (if nat_lt date.month 12
    then record { year = date.year; month = date.month + 1; day = 1 }
    else record { year = date.year + 1; month = 1; day = 1 })

-- the date so many days after 0001-01-01
unfoldable pub date_after : ℕ → CivilDate
date_after zero = record { year = 1; month = 1; day = 1 }
date_after (suc days) = next_date (date_after days)

-- the date of a day number that isn't before 0001-01-01
abbrev pub civil_date : ℤ → CivilDate
civil_date day = date_after (unsigned_abs (day +ℤ pos 719162))

-- The day lies in the years 0001 to 9999.
abbrev pub IsDay : ℤ → Type 0
IsDay day = (neg_ℤ (pos 719162) ≤ℤ day) × (day ≤ℤ pos 2932896)
