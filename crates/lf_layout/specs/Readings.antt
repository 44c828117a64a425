-- What a text of a layout says: fields at fixed places. Of other texts nothing is meant.
use Rattle.std.specs.Prelude.{ℕ, ◌+◌, ◌-◌, ◌*◌, List, Bool, true, false, cond, ◌==◌, min, ℤ, pos, neg_ℤ, ◌+ℤ◌, ◌*ℤ◌, slice_index}
use Rattle.lf_core.specs.declared.values.Moment.{Moment}
use Rattle.lf_layout.specs.declared.calendar.CivilDate.{CivilDate}
use Rattle.lf_layout.specs.Calendar.{day_number}
use Rattle.lf_layout.specs.Names.{month_of_name}
use Rattle.lf_layout.specs.declared.layout.DateForm.{DateForm}
use Rattle.lf_layout.specs.declared.layout.DateForm.TheVariants.{Iso, Named}
use Rattle.lf_layout.specs.declared.layout.Zone.{Zone}
use Rattle.lf_layout.specs.declared.layout.Zone.TheVariants.{Absent, Zulu, Compact, Colon}
use Rattle.lf_layout.specs.declared.layout.Layout.{Layout}

-- the digit at the place
abbrev pub digit_at : List ℕ → ℕ → ℕ
digit_at text at = slice_index text at - 48

-- the number of two digits at the place
abbrev pub number_at : List ℕ → ℕ → ℕ
number_at text at = 10 * digit_at text at + digit_at text (at + 1)

-- the year of four digits at the place
abbrev pub year_at : List ℕ → ℕ → ℕ
year_at text at = 100 * number_at text at + number_at text (at + 2)

-- the date that begins at the place
abbrev pub date_at : DateForm → List ℕ → ℕ → CivilDate
date_at Iso text at = record { year = year_at text at; month = number_at text (at + 5); day = number_at text (at + 8) }
date_at Named text at = record {
  year = year_at text (at + 7);
  month = month_of_name (slice_index text (at + 3)) (slice_index text (at + 4)) (slice_index text (at + 5)) + 1;
  day = number_at text at;
}

-- the second of the day of the time that begins at the place
abbrev pub second_at : List ℕ → ℕ → ℕ
second_at text at = 3600 * number_at text at + 60 * number_at text (at + 3) + number_at text (at + 6)

-- the milliseconds after a point at the place
abbrev pub millis_at : Bool → List ℕ → ℕ → ℕ
millis_at true text at = 100 * digit_at text (at + 1) + number_at text (at + 2)
millis_at false text at = 0

-- minutes with their sign
abbrev pub signed_minutes : ℕ → ℕ → ℤ
signed_minutes sign minutes = cond (sign == 45) (neg_ℤ (pos minutes)) (pos minutes)

-- the offset that begins at the place, under a day
abbrev pub offset_at : Zone → List ℕ → ℕ → ℤ
offset_at Absent text at = pos 0
offset_at Zulu text at = pos 0
offset_at Compact text at = signed_minutes (slice_index text (at + 1)) (min (60 * number_at text (at + 2) + number_at text (at + 4)) 1439)
offset_at Colon text at = signed_minutes (slice_index text at) (min (60 * number_at text (at + 1) + number_at text (at + 4)) 1439)

-- how many letters a date has
abbrev pub date_width : DateForm → ℕ
date_width Iso = 10
date_width Named = 11

-- where the date begins
abbrev pub date_place : Layout → ℕ
date_place layout = cond layout.bracketed 1 0

-- where the time of the day begins
abbrev pub clock_place : Layout → ℕ
clock_place layout = date_place layout + date_width layout.date + 1

-- where the milliseconds begin
abbrev pub millis_place : Layout → ℕ
millis_place layout = clock_place layout + 8

-- where the offset begins
abbrev pub zone_place : Layout → ℕ
zone_place layout = millis_place layout + cond layout.millis 4 0

-- the seconds of a day and a second of it
abbrev pub seconds_of : ℤ → ℕ → ℤ
seconds_of day second = (day *ℤ pos 86400) +ℤ pos second

-- the moment that a text of the layout says
abbrev pub moment_at : Layout → List ℕ → Moment
moment_at layout text = record {
  seconds = seconds_of (day_number (date_at layout.date text (date_place layout))) (second_at text (clock_place layout));
  millis = millis_at layout.millis text (millis_place layout);
  offset = offset_at layout.zone text (zone_place layout);
}
