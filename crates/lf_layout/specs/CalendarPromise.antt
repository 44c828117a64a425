-- What the calendar keeps.
use Rattle.std.specs.Prelude.{◌≡◌, ℤ, pos}
use Rattle.jiff_core.specs.Calendar.{days_from_civil}
use Rattle.lf_layout.specs.declared.calendar.CivilDate.{CivilDate}
use Rattle.lf_layout.specs.Calendar.{IsDate, IsDay, day_number, civil_date}

-- Each day of the years 0001 to 9999 has just one date, and each date just one day.
pub record IsCalendar : Type 0 where
  pub date_of_day : (day : ℤ) → IsDay day → IsDate (civil_date day) × (day_number (civil_date day) ≡ day)
  pub day_of_date : (date : CivilDate) → IsDate date → IsDay (day_number date) × (civil_date (day_number date) ≡ date)

-- The day numbers are those of the calendar of jiff.
abbrev pub IsJiffCalendar : Type 0
IsJiffCalendar =
    (date : CivilDate) → IsDate date → days_from_civil (pos date.year) date.month date.day ≡ day_number date
