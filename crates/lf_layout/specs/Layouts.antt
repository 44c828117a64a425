-- What the layouts of times hold, and their texts.
use Rattle.std.specs.Prelude.{◌≡◌, ℕ, ◌<◌, ◌≤◌, List, [], ◌∷◌, ◌++◌, Bool, true, false, ℤ, pos, neg_ℤ, ◌≤ℤ◌, unsigned_abs}
use Rattle.std.specs.Bool.{OnFalse}
use Rattle.std.specs.Int.{int_div_euclid, int_rem_euclid}
use Rattle.lf_core.specs.declared.values.Moment.{Moment}
use Rattle.lf_core.specs.declared.values.Value.{Value}
use Rattle.lf_core.specs.declared.values.Value.TheVariants.{Moment as a_moment, Day as a_day, Clock as a_clock}
use Rattle.lf_layout.specs.declared.calendar.CivilDate.{CivilDate}
use Rattle.lf_layout.specs.Calendar.{civil_date, IsDay}
use Rattle.lf_layout.specs.Texts.{three, iso_date_text, named_date_text, clock_text, letter_if, offset_text}
use Rattle.lf_layout.specs.declared.layout.DateForm.{DateForm}
use Rattle.lf_layout.specs.declared.layout.DateForm.TheVariants.{Iso, Named}
use Rattle.lf_layout.specs.declared.layout.Zone.{Zone}
use Rattle.lf_layout.specs.declared.layout.Zone.TheVariants.{Absent, Zulu, Compact, Colon}
use Rattle.lf_layout.specs.declared.layout.Layout.{Layout}

-- the number of the civil day of a moment: the whole days of its seconds, rounded down
unfoldable pub civil_day : ℤ → ℤ
civil_day seconds = int_div_euclid seconds (pos 86400)

-- the second of that day
unfoldable pub second_of_day : ℤ → ℕ
second_of_day seconds = unsigned_abs (int_rem_euclid seconds (pos 86400))

-- An offset under a day, in minutes.
abbrev pub IsOffset : ℤ → Type 0
IsOffset offset = (neg_ℤ (pos 1439) ≤ℤ offset) × (offset ≤ℤ pos 1439)

-- A moment of the years 0001 to 9999, with an offset under a day.
abbrev pub IsMoment : Moment → Type 0
IsMoment m =
    (neg_ℤ (pos 62135596800) ≤ℤ m.seconds) × (m.seconds ≤ℤ pos 253402300799) × (m.millis ≤ 999)
    × (neg_ℤ (pos 1439) ≤ℤ m.offset) × (m.offset ≤ℤ pos 1439)

-- the date as the form writes it
abbrev pub date_text : DateForm → CivilDate → List ℕ
date_text Iso date = iso_date_text date
date_text Named date = named_date_text date

-- a point and three digits, where milliseconds are written
abbrev pub millis_text : Bool → ℕ → List ℕ
millis_text true millis = 46 ∷ three millis
millis_text false millis = []

-- what is written of the offset
abbrev pub zone_text : Zone → ℤ → List ℕ
zone_text Absent offset = []
zone_text Zulu offset = 90 ∷ []
zone_text Compact offset = 32 ∷ offset_text false offset
zone_text Colon offset = offset_text true offset

-- Whether the layout writes an offset.
abbrev pub writes_offset : Zone → Bool
writes_offset Absent = false
writes_offset Zulu = false
writes_offset Compact = true
writes_offset Colon = true

-- the text of a moment: date and time as written, and what the layout writes of the rest
abbrev pub layout_text : Layout → Moment → List ℕ
layout_text layout m =
    letter_if layout.bracketed 91 ++ date_text layout.date (civil_date (civil_day m.seconds))
    ++ layout.between ∷ clock_text (second_of_day m.seconds)
    ++ millis_text layout.millis m.millis ++ zone_text layout.zone m.offset ++ letter_if layout.bracketed 93

-- A moment with nothing but what the layout writes.
abbrev pub IsShown : Layout → Moment → Type 0
IsShown layout m = IsMoment m × OnFalse layout.millis (m.millis ≡ 0) × OnFalse (writes_offset layout.zone) (m.offset ≡ pos 0)

-- The moments that a layout holds.
abbrev pub HoldsMoment : Layout → Value → Type 0
HoldsMoment layout (a_moment m) = IsShown layout m
HoldsMoment layout v = ⊥

-- the text of a moment that a layout holds
abbrev pub moment_text : Layout → Value → List ℕ
moment_text layout (a_moment m) = layout_text layout m
moment_text layout v = []

-- A day of the years 0001 to 9999.
abbrev pub HoldsDay : Value → Type 0
HoldsDay (a_day day) = IsDay day
HoldsDay v = ⊥

-- `2000-10-10`, of the day's date
abbrev pub day_text : Value → List ℕ
day_text (a_day day) = iso_date_text (civil_date day)
day_text v = []

-- A second of the day.
abbrev pub HoldsClock : Value → Type 0
HoldsClock (a_clock second) = second < 86400
HoldsClock v = ⊥

-- `13:55:36`
abbrev pub time_text : Value → List ℕ
time_text (a_clock second) = clock_text second
time_text v = []
