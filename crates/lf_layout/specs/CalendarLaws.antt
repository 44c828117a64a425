-- Laws of the calendar: the day number of a date, and the date of a day number.
use Rattle.std.proofs.Common.{◌≡◌, ℕ, zero, suc, ◌+◌, ◌-◌, ◌*◌, ◌/◌, ◌%◌, ◌<◌, ◌≤◌, inl, inr, true, false, cond, nat_lt, refl, sym, ap, subst, ◌∙◌, arith}
use Rattle.std.specs.Prelude.{ℤ, pos, negsuc, ◌+ℤ◌, ◌-ℤ◌, ◌≤ℤ◌, unsigned_abs}
use Rattle.std.proofs.lemmas.Bool.Decides.{nat_tests}
use Rattle.jiff_core.proofs.SignedLemmas.{signed_arith}
use Rattle.lf_layout.specs.declared.calendar.CivilDate.{CivilDate}
use Rattle.lf_core.specs.Choices.{below}
use Rattle.lf_layout.specs.Calendar.{is_leap, month_length, days_of_months, days_before_year, day_count, day_number, IsDateUpTo, IsDate, next_date, date_after, civil_date, IsDay}

-- 1 for a leap year, and else 0
abbrev pub leap_day : ℕ → ℕ
leap_day year = cond (is_leap year) 1 0

year-next : (y : ℕ) → days_before_year (suc (suc y)) ≡ days_before_year (suc y) + 365 + leap_day (suc y)
unfolding days_before_year
year-next y = grind (arith, nat_tests)

pub days_before_year-next : (y : ℕ) → 1 ≤ y → days_before_year (y + 1) ≡ days_before_year y + 365 + leap_day y
days_before_year-next zero h = absurd (omega arith)
days_before_year-next (suc y) h = let e : suc y + 1 ≡ suc (suc y) = omega arith in ap days_before_year e ∙ year-next y

pub days_of_months-all : (y : ℕ) → days_of_months y 12 ≡ 365 + leap_day y
unfolding days_of_months
days_of_months-all y = grind arith

pub days_of_months-next : (y m : ℕ) → 1 ≤ m → days_of_months y m ≡ days_of_months y (m - 1) + month_length y m
unfolding days_of_months
days_of_months-next y zero h = absurd (omega arith)
days_of_months-next y (suc m) h = let e : suc m - 1 ≡ m = omega arith in rw e refl

pub month_length-least : (y m : ℕ) → 28 ≤ month_length y m
month_length-least y m = grind arith

days_of_months-none : (y : ℕ) → days_of_months y 0 ≡ 0
unfolding days_of_months
days_of_months-none y = refl

days_before_first : days_before_year 1 ≡ 0
unfolding days_before_year
days_before_first = refl

-- A date with its day's place in the calendar.
pub record IsNth (date : CivilDate) (count : ℕ) : Type 0 where
  pub some_year : 1 ≤ date.year
  pub some_month : 1 ≤ date.month
  pub month_most : date.month ≤ 12
  pub some_day : 1 ≤ date.day
  pub day_most : date.day ≤ month_length date.year date.month
  pub place : day_count date.year date.month date.day ≡ count

abbrev pub dated : ℕ → ℕ → ℕ → CivilDate
dated y m d = record { year = y; month = m; day = d }

pub same-date : (y m d y' m' d' : ℕ) → y ≡ y' → m ≡ m' → d ≡ d' → dated y m d ≡ dated y' m' d'
same-date y m d y' m' d' e f g = ap (λ (x : ℕ). dated x m d) e ∙ ap (λ (x : ℕ). dated y' x d) f ∙ ap (λ (x : ℕ). dated y' m' x) g

next_in_month : (y m d n : ℕ) → IsNth (dated y m d) n → d < month_length y m → IsNth (dated y m (d + 1)) (n + 1)
next_in_month y m d n is l = record {
  some_year = is.some_year;
  some_month = is.some_month;
  month_most = is.month_most;
  some_day = omega arith;
  day_most = omega arith;
  place = omega (arith, is.place);
}

next_in_year : (y m d n : ℕ) → IsNth (dated y m d) n → month_length y m ≤ d → m < 12 → IsNth (dated y (m + 1) 1) (n + 1)
next_in_year y m d n is l k =
    let e = days_of_months-next y m is.some_month in
    let f : m + 1 - 1 ≡ m = omega arith in
    let g : days_of_months y (m + 1 - 1) ≡ days_of_months y m = ap (days_of_months y) f in
    let b = month_length-least y (m + 1) in
    let same : d ≡ month_length y m = omega (arith, is.day_most) in
    record {
      some_year = is.some_year;
      some_month = omega arith;
      month_most = omega arith;
      some_day = omega arith;
      day_most = omega arith;
      place = omega (arith, is.place);
    }

next_year : (y m d n : ℕ) → IsNth (dated y m d) n → month_length y m ≤ d → 12 ≤ m → IsNth (dated (y + 1) 1 1) (n + 1)
next_year y m d n is l k =
    let twelve : m ≡ 12 = omega (arith, is.month_most) in
    let same : d ≡ month_length y m = omega (arith, is.day_most) in
    let e = days_of_months-next y m is.some_month in
    let a : days_of_months y m ≡ days_of_months y 12 = ap (days_of_months y) twelve in
    let all = days_of_months-all y in
    let more = days_before_year-next y is.some_year in
    let none = days_of_months-none (y + 1) in
    let b = month_length-least (y + 1) 1 in
    record {
      some_year = omega arith;
      some_month = omega arith;
      month_most = omega arith;
      some_day = omega arith;
      day_most = omega arith;
      place = omega (arith, is.place);
    }

next-nth : (date : CivilDate) (n : ℕ) → IsNth date n → IsNth (next_date date) (n + 1)
next-nth date n is =
    elim (below date.day (month_length date.year date.month)) [
      | inl t ↦ rw t.0 (next_in_month date.year date.month date.day n is t.1)
      | inr f ↦
          elim (below date.month 12) [
            | inl t ↦ rw (f.0, t.0) (next_in_year date.year date.month date.day n is f.1 t.1)
            | inr g ↦ rw (f.0, g.0) (next_year date.year date.month date.day n is f.1 g.1)
          ]
    ]

first-nth : IsNth (dated 1 1 1) 1
first-nth = record {
  some_year = omega arith;
  some_month = omega arith;
  month_most = omega arith;
  some_day = omega arith;
  day_most = omega (arith, month_length-least 1 1);
  place = omega (arith, days_before_first, days_of_months-none 1);
}

-- the date so many days after the first is that day of the calendar
pub date_after-nth : (n : ℕ) → IsNth (date_after n) (n + 1)
unfolding date_after
date_after-nth zero = first-nth
date_after-nth (suc n) =
    let e : suc n + 1 ≡ (n + 1) + 1 = omega arith in
    subst (λ (k : ℕ). IsNth (next_date (date_after n)) k) (sym e) (next-nth (date_after n) (n + 1) (date_after-nth n))

-- the day before, where there is one
day_before : (y m d n : ℕ) → IsNth (dated y m d) (n + 2) → 1 < d → IsNth (dated y m (d - 1)) (n + 1) × (next_date (dated y m (d - 1)) ≡ dated y m d)
day_before y m d n is l =
    let t : nat_lt (d - 1) (month_length y m) ≡ true = grind (arith, nat_tests, is.day_most) in
    let e : d - 1 + 1 ≡ d = omega arith in (
      record {
        some_year = is.some_year;
        some_month = is.some_month;
        month_most = is.month_most;
        some_day = omega arith;
        day_most = omega (arith, is.day_most);
        place = omega (arith, is.place);
      },
      rw (t, e) refl,
    )

month_before : (y m n : ℕ) → IsNth (dated y m 1) (n + 2) → 1 < m → IsNth (dated y (m - 1) (month_length y (m - 1))) (n + 1) × (next_date (dated y (m - 1) (month_length y (m - 1))) ≡ dated y m 1)
month_before y m n is l =
    let t : nat_lt (month_length y (m - 1)) (month_length y (m - 1)) ≡ false = grind (arith, nat_tests) in
    let u : nat_lt (m - 1) 12 ≡ true = grind (arith, nat_tests, is.month_most) in
    let e : m - 1 + 1 ≡ m = omega arith in
    let more = days_of_months-next y (m - 1) (omega arith) in
    let b = month_length-least y (m - 1) in (
      record {
        some_year = is.some_year;
        some_month = omega arith;
        month_most = omega (arith, is.month_most);
        some_day = omega arith;
        day_most = omega arith;
        place = omega (arith, is.place);
      },
      rw (t, u, e) refl,
    )

year_before : (y n : ℕ) → IsNth (dated y 1 1) (n + 2) → 1 < y → IsNth (dated (y - 1) 12 31) (n + 1) × (next_date (dated (y - 1) 12 31) ≡ dated y 1 1)
year_before y n is l =
    let e : y - 1 + 1 ≡ y = omega arith in
    let more = days_before_year-next (y - 1) (omega arith) in
    let same : days_before_year (y - 1 + 1) ≡ days_before_year y = ap days_before_year e in
    let last = days_of_months-next (y - 1) 12 (omega arith) in
    let all = days_of_months-all (y - 1) in
    let none = days_of_months-none y in (
      record {
        some_year = omega arith;
        some_month = omega arith;
        month_most = omega arith;
        some_day = omega arith;
        day_most = omega arith;
        place = omega (arith, is.place);
      },
      ap (λ (x : ℕ). dated x 1 1) e,
    )

days_before_year-least : (y : ℕ) → 1 < y → 365 ≤ days_before_year y
unfolding days_before_year
days_before_year-least y h = omega arith

days_of_months-least : (y m : ℕ) → 1 ≤ m → 28 ≤ days_of_months y m
days_of_months-least y m h = omega (arith, days_of_months-next y m h, month_length-least y m)

-- the day before, which is the earlier place
before-nth : (y m d n : ℕ) → IsNth (dated y m d) (n + 2) → (date : CivilDate) × IsNth date (n + 1) × (next_date date ≡ dated y m d)
before-nth y m d n is =
    elim (below 1 d) [
      | inl t ↦ let b = day_before y m d n is t.1 in (dated y m (d - 1), b.0, b.1)
      | inr f ↦
          let one : d ≡ 1 = omega (arith, is.some_day) in
          subst (λ (x : ℕ). IsNth (dated y m x) (n + 2) → (date : CivilDate) × IsNth date (n + 1) × (next_date date ≡ dated y m x)) (sym one)
          (λ is1. elim (below 1 m) [
            | inl t ↦ let b = month_before y m n is1 t.1 in (dated y (m - 1) (month_length y (m - 1)), b.0, b.1)
            | inr g ↦
                let first : m ≡ 1 = omega (arith, is.some_month) in
                subst (λ (x : ℕ). IsNth (dated y x 1) (n + 2) → (date : CivilDate) × IsNth date (n + 1) × (next_date date ≡ dated y x 1)) (sym first)
                (λ is2. elim (below 1 y) [
                  | inl t ↦ let b = year_before y n is2 t.1 in (dated (y - 1) 12 31, b.0, b.1)
                  | inr k ↦
                      let year : y ≡ 1 = omega (arith, is.some_year) in
                      absurd (omega (arith, is2.place, ap days_before_year year, days_before_first, days_of_months-none y))
                ])
                is1
          ])
          is
    ]

first-only : (y m d : ℕ) → IsNth (dated y m d) 1 → dated 1 1 1 ≡ dated y m d
first-only y m d is =
    elim (below 1 y) [
      | inl t ↦ absurd (omega (arith, is.place, is.some_day, days_before_year-least y t.1))
      | inr f ↦
          elim (below 1 m) [
            | inl t ↦ absurd (omega (arith, is.place, is.some_day, days_of_months-least y (m - 1) (omega arith)))
            | inr g ↦
                let a : 1 ≡ y = omega (arith, is.some_year) in
                let b : 1 ≡ m = omega (arith, is.some_month) in
                let none : days_of_months y (m - 1) ≡ 0 = let z : m - 1 ≡ 0 = omega arith in ap (days_of_months y) z ∙ days_of_months-none y in
                let start : days_before_year y ≡ 0 = ap days_before_year (sym a) ∙ days_before_first in
                let c : 1 ≡ d = omega (arith, is.place) in
                ap (λ (x : ℕ). dated x 1 1) a ∙ ap (λ (x : ℕ). dated y x 1) b ∙ ap (λ (x : ℕ). dated y m x) c
          ]
    ]

-- no other date is that day
pub date_after-only : (n : ℕ) (date : CivilDate) → IsNth date (n + 1) → date_after n ≡ date
unfolding date_after
date_after-only zero date is = first-only date.year date.month date.day is
date_after-only (suc n) date is =
    let e : suc n + 1 ≡ n + 2 = omega arith in
    let b = before-nth date.year date.month date.day n (subst (λ (k : ℕ). IsNth date k) e is) in
    ap next_date (date_after-only n b.0 b.1) ∙ b.2

-- the ends of the years 0001 to 9999

late-year : (q r : ℕ) → r < 100 → 9999 ≤ 100 * q + r → 2424 ≤ 24 * q + r / 4 + q / 4
late-year q r h k = omega arith

days_before_year-late : (y : ℕ) → 10000 ≤ y → 3652059 ≤ days_before_year y
unfolding days_before_year
days_before_year-late y h = omega (arith, late-year ((y - 1) / 100) ((y - 1) % 100) (omega arith) (omega arith))

early-year : (q r : ℕ) → r < 100 → 100 * q + r ≤ 9999 → 24 * q + r / 4 + q / 4 ≤ 2424
early-year q r h k = omega arith

days_before_year-early : (y : ℕ) → y ≤ 10000 → days_before_year y ≤ 3652059
unfolding days_before_year
days_before_year-early y h = omega (arith, early-year ((y - 1) / 100) ((y - 1) % 100) (omega arith) (omega arith))

days_of_months-rise : (y m k : ℕ) → days_of_months y m ≤ days_of_months y (m + k)
unfolding days_of_months
days_of_months-rise y m zero = omega (arith, ap (days_of_months y) (plus m))
  where
    plus : (m : ℕ) → m + 0 ≡ m
    plus m = omega arith
days_of_months-rise y m (suc k) =
    let e : m + suc k ≡ suc (m + k) = omega arith in
    omega (arith, ap (days_of_months y) e, days_of_months-rise y m k)

year_end : (y m : ℕ) → m ≤ 12 → days_of_months y m ≤ 365 + leap_day y
year_end y m h =
    let e : m + (12 - m) ≡ 12 = omega arith in
    omega (arith, days_of_months-rise y m (12 - m), ap (days_of_months y) e, days_of_months-all y)

-- a date of these years is one of their days
pub date_early : (y m d : ℕ) → IsDateUpTo 9999 y m d → day_count y m d ≤ 3652059
date_early y m d is =
    omega (arith, is.some_month, is.day_most, is.year_most, days_of_months-next y m is.some_month, year_end y m is.month_most, days_before_year-next y is.some_year, days_before_year-early (y + 1))

-- and a day of them has such a year
pub year_early : (y m d : ℕ) → day_count y m d ≤ 3652059 → 1 ≤ d → y ≤ 9999
year_early y m d h l =
    elim (below y 10000) [
      | inl t ↦ omega arith
      | inr f ↦ absurd (omega (arith, days_before_year-late y f.1))
    ]

pub of_positive : (z : ℤ) → pos 0 ≤ℤ z → pos (unsigned_abs z) ≡ z
of_positive (pos n) h = refl
of_positive (negsuc n) h = absurd (omega (arith, signed_arith))

shifted-up : (day : ℤ) → IsDay day → (n : ℕ) × (n < 3652059) × (unsigned_abs (day +ℤ pos 719162) ≡ n) × (day ≡ pos (n + 1) -ℤ pos 719163)
shifted-up day h =
    let low : pos 0 ≤ℤ (day +ℤ pos 719162) = omega (arith, signed_arith, h.0) in
    let e = of_positive (day +ℤ pos 719162) low in
    (unsigned_abs (day +ℤ pos 719162), omega (arith, signed_arith, h.1, e), refl, omega (arith, signed_arith, e))

shifted-down : (n : ℕ) → 1 ≤ n → n ≤ 3652059 → IsDay (pos n -ℤ pos 719163) × (unsigned_abs ((pos n -ℤ pos 719163) +ℤ pos 719162) + 1 ≡ n)
shifted-down n h k =
    let low : pos 0 ≤ℤ ((pos n -ℤ pos 719163) +ℤ pos 719162) = omega (arith, signed_arith) in
    let e = of_positive ((pos n -ℤ pos 719163) +ℤ pos 719162) low in
    ((omega (arith, signed_arith), omega (arith, signed_arith)), omega (arith, signed_arith, e))

-- the date of a day number is a date, and has that day number
pub civil_date-is : (day : ℤ) → IsDay day → IsDate (civil_date day) × (day_number (civil_date day) ≡ day)
civil_date-is day h =
    let s = shifted-up day h in
    let nth = date_after-nth (unsigned_abs (day +ℤ pos 719162)) in
    let count : day_count (civil_date day).year (civil_date day).month (civil_date day).day ≤ 3652059 = omega (arith, nth.place, s.1, s.2) in (
      record {
        some_year = nth.some_year;
        year_most = year_early (civil_date day).year (civil_date day).month (civil_date day).day count nth.some_day;
        some_month = nth.some_month;
        month_most = nth.month_most;
        some_day = nth.some_day;
        day_most = nth.day_most;
      },
      ap (λ (n : ℕ). pos n -ℤ pos 719163) (nth.place ∙ ap (λ (n : ℕ). n + 1) s.2) ∙ sym s.3,
    )

-- a date's day number is one of these years, and the date is that of no other
pub day_number-is : (date : CivilDate) → IsDate date → IsDay (day_number date) × (civil_date (day_number date) ≡ date)
day_number-is date is =
    let s = shifted-down (day_count date.year date.month date.day) (omega (arith, is.some_day)) (date_early date.year date.month date.day is) in (
      s.0,
      date_after-only (unsigned_abs (day_number date +ℤ pos 719162)) date (record {
        some_year = is.some_year;
        some_month = is.some_month;
        month_most = is.month_most;
        some_day = is.some_day;
        day_most = is.day_most;
        place = sym s.1;
      }),
    )
