-- What the fields of a stamp mean.
use Rattle.std.specs.Prelude.{◌≡◌, ℕ, ◌+◌, ◌*◌, ◌≤◌, ◌<◌, true, cond, List, ◌∷◌, ◌++◌, ℤ, pos, neg_ℤ}
use Rattle.lf_core.specs.declared.values.Moment.{Moment}
use Rattle.lf_layout.specs.declared.calendar.CivilDate.{CivilDate}
use Rattle.lf_layout.specs.Calendar.{IsDate, day_number}
use Rattle.lf_layout.specs.Layouts.{date_text, millis_text, zone_text}
use Rattle.lf_layout.specs.Readings.{seconds_of}
use Rattle.lf_layout.specs.Texts.{clock_text, letter_if}
use Rattle.lf_layout.specs.declared.layout.Layout.{Layout}
use Rattle.lf_stamp.specs.declared.date.Date.{Date}
use Rattle.lf_stamp.specs.declared.time_of_day.TimeOfDay.{TimeOfDay}
use Rattle.lf_stamp.specs.declared.offset.Offset.{Offset}
use Rattle.lf_stamp.specs.declared.stamp.Stamp.{Stamp}

-- the year of four digits
abbrev pub year_of : Date → ℕ
year_of d = 100 * d.century + d.year

-- the date of the calendar
abbrev pub date_of : Date → CivilDate
date_of d = record { year = year_of d; month = d.month; day = d.day }

-- the second of the day
abbrev pub second_of : TimeOfDay → ℕ
second_of t = 3600 * t.hour + 60 * t.minute + t.second

-- the minutes of an offset, without its sign
abbrev pub magnitude_of : Offset → ℕ
magnitude_of z = 60 * z.hour + z.minute

-- the minutes of an offset
abbrev pub minutes_of : Offset → ℤ
minutes_of z = cond z.behind (neg_ℤ (pos (magnitude_of z))) (pos (magnitude_of z))

-- the moment of a stamp
abbrev pub moment_of : Stamp → Moment
moment_of s = record { seconds = seconds_of (day_number (date_of s.date)) (second_of s.time); millis = s.millis; offset = minutes_of s.offset }

-- A date of the calendar, by two digits and two.
pub record KeepsDate (d : Date) : Type 0 where
  pub century : d.century < 100
  pub year : d.year < 100
  pub is_date : IsDate (date_of d)

-- A second of the day.
pub record KeepsTime (t : TimeOfDay) : Type 0 where
  pub hour : t.hour < 24
  pub minute : t.minute < 60
  pub second : t.second < 60

-- An offset under a day, and no zero with a minus.
pub record KeepsOffset (z : Offset) : Type 0 where
  pub hour : z.hour < 24
  pub minute : z.minute < 60
  pub some : z.behind ≡ true → 1 ≤ magnitude_of z

-- Each field keeps what it should.
pub record KeepsStamp (s : Stamp) : Type 0 where
  pub date : KeepsDate s.date
  pub time : KeepsTime s.time
  pub millis : s.millis < 1000
  pub offset : KeepsOffset s.offset

-- the fields as the layout writes them
abbrev pub stamp_text : Layout → Stamp → List ℕ
stamp_text layout s =
    letter_if layout.bracketed 91 ++ date_text layout.date (date_of s.date) ++ layout.between ∷ clock_text (second_of s.time)
    ++ millis_text layout.millis s.millis ++ zone_text layout.zone (minutes_of s.offset) ++ letter_if layout.bracketed 93
