-- What the calendar keeps.
use Rattle.lf_layout.specs.CalendarPromise.{IsCalendar, IsJiffCalendar}
use Rattle.lf_layout.specs.CalendarLaws.{civil_date-is, day_number-is}
use Rattle.lf_layout.proofs.JiffCalendar.{same-day}

pub is_calendar : IsCalendar
is_calendar = record { date_of_day = civil_date-is; day_of_date = day_number-is }

pub is_jiff_calendar : IsJiffCalendar
is_jiff_calendar date is = same-day date.year date.month date.day is.some_year is.some_day
