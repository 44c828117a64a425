-- The letters of times stand as they are in a string.
use Rattle.std.proofs.Common.{ℕ, ◌/◌, ◌%◌, ◌<◌, ◌≤◌, true, List, [], ◌∷◌, ◌++◌, arith}
use Rattle.std.specs.Prelude.{ℤ, pos, negsuc, unsigned_abs}
use Rattle.std.specs.Str.{IsAscii}
use Rattle.std.proofs.lemmas.Str.Ascii.{IsAscii-nil, IsAscii-cons}
use Rattle.lf_core.specs.declared.values.Moment.{Moment}
use Rattle.lf_layout.specs.declared.calendar.CivilDate.{CivilDate}
use Rattle.lf_layout.specs.Calendar.{IsDate, IsDay, civil_date, month_length}
use Rattle.lf_layout.specs.CalendarLaws.{civil_date-is}
use Rattle.lf_layout.specs.Layouts.{IsMoment, IsOffset, civil_day, second_of_day, layout_text}
use Rattle.lf_layout.specs.LayoutLaws.{day-in}
use Rattle.lf_layout.specs.OffsetLaws.{abs-most}
use Rattle.lf_layout.specs.ReadingLaws.{second_of_day-less}
use Rattle.lf_layout.specs.Texts.{two, three, four, iso_date_text, clock_text, sign_letter, offset_text}
use Rattle.lf_time.specs.TimeLayouts.{json_layout}

-- Letters from `#` to `[`: no quote, no backslash and no control is among them.
abbrev pub AreBare : List ℕ → Type 0
AreBare [] = Unit {0}
AreBare (x ∷ xs) = (35 ≤ x) × (x ≤ 91) × AreBare xs

bare-append : (xs ys : List ℕ) → AreBare xs → AreBare ys → AreBare (xs ++ ys)
bare-append [] ys h k = k
bare-append (x ∷ xs) ys h k = (h.0, h.1, bare-append xs ys h.2 k)

pub bare-ascii : (xs : List ℕ) → AreBare xs → IsAscii xs
bare-ascii [] h = IsAscii-nil
bare-ascii (x ∷ xs) h = IsAscii-cons x xs (omega (arith, h.1)) (bare-ascii xs h.2)

-- letters after one of them
bare-after : (x : ℕ) (xs : List ℕ) → AreBare xs → (35 ≤ x) × (x ≤ 91) → AreBare (x ∷ xs)
bare-after x xs h is = (is.0, is.1, h)

hyphen : (35 ≤ 45) × (45 ≤ 91)
hyphen = (omega arith, omega arith)

colon : (35 ≤ 58) × (58 ≤ 91)
colon = (omega arith, omega arith)

bare-two : (n : ℕ) → n < 100 → AreBare (two n)
bare-two n h = (omega arith, omega arith, (omega arith, omega arith, tt))

bare-three : (n : ℕ) → n < 1000 → AreBare (three n)
bare-three n h = (omega arith, omega arith, bare-two (n % 100) (omega arith))

bare-four : (n : ℕ) → n < 10000 → AreBare (four n)
bare-four n h = bare-append (two (n / 100)) (two (n % 100)) (bare-two (n / 100) (omega arith)) (bare-two (n % 100) (omega arith))

month_length-most : (y m : ℕ) → month_length y m < 100
month_length-most y m = grind arith

bare-date : (date : CivilDate) → IsDate date → AreBare (iso_date_text date)
bare-date date is =
    let day = bare-two date.day (omega (arith, is.day_most, month_length-most date.year date.month)) in
    let month = bare-two date.month (omega (arith, is.month_most)) in
    let year = bare-four date.year (omega (arith, is.year_most)) in
    let rest = two date.month ++ 45 ∷ two date.day in
    bare-append (four date.year) (45 ∷ rest) year (bare-after 45 rest (bare-append (two date.month) (45 ∷ two date.day) month (bare-after 45 (two date.day) day hyphen)) hyphen)

pub bare-day : (day : ℤ) → IsDay day → AreBare (iso_date_text (civil_date day))
bare-day day h = bare-date (civil_date day) (civil_date-is day h).0

pub bare-clock : (second : ℕ) → second < 86400 → AreBare (clock_text second)
bare-clock second h =
    let hour = bare-two (second / 3600) (omega arith) in
    let minute = bare-two (second / 60 % 60) (omega arith) in
    let rest = two (second / 60 % 60) ++ 58 ∷ two (second % 60) in
    bare-append (two (second / 3600)) (58 ∷ rest) hour
    (bare-after 58 rest (bare-append (two (second / 60 % 60)) (58 ∷ two (second % 60)) minute (bare-after 58 (two (second % 60)) (bare-two (second % 60) (omega arith)) colon)) colon)

bare-sign : (offset : ℤ) → (35 ≤ sign_letter offset) × (sign_letter offset ≤ 91)
bare-sign (pos n) = (omega arith, omega arith)
bare-sign (negsuc n) = (omega arith, omega arith)

bare-offset : (offset : ℤ) → IsOffset offset → AreBare (offset_text true offset)
bare-offset offset h =
    let most = abs-most offset h in
    let hours = bare-two (unsigned_abs offset / 60) (omega (arith, most)) in
    let minutes = two (unsigned_abs offset % 60) in
    bare-after (sign_letter offset) (two (unsigned_abs offset / 60) ++ 58 ∷ minutes)
    (bare-append (two (unsigned_abs offset / 60)) (58 ∷ minutes) hours (bare-after 58 minutes (bare-two (unsigned_abs offset % 60) (omega arith)) colon)) (bare-sign offset)

-- the time of the day, milliseconds and offset
bare-time : (second millis : ℕ) (offset : ℤ) → second < 86400 → millis ≤ 999 → IsOffset offset → AreBare (clock_text second ++ 46 ∷ (three millis ++ offset_text true offset ++ []))
bare-time second millis offset few least is =
    let tail = offset_text true offset ++ [] in
    bare-append (clock_text second) (46 ∷ (three millis ++ tail)) (bare-clock second few)
    (bare-after 46 (three millis ++ tail) (bare-append (three millis) tail (bare-three millis (omega (arith, least))) (bare-append (offset_text true offset) [] (bare-offset offset is) tt)) (omega arith, omega arith))

pub bare-moment : (m : Moment) → IsMoment m → AreBare (layout_text json_layout m)
bare-moment m is =
    let day = civil_day m.seconds in
    let second = second_of_day m.seconds in
    let time = clock_text second ++ 46 ∷ (three m.millis ++ offset_text true m.offset ++ []) in
    bare-append (iso_date_text (civil_date day)) (84 ∷ time) (bare-day day (day-in m.seconds is.0 is.1))
    (bare-after 84 time (bare-time second m.millis m.offset (second_of_day-less m.seconds) is.2 (is.3, is.4)) (omega arith, omega arith))
