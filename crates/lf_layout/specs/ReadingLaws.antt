-- A text that was written is read back.
use Rattle.std.proofs.Common.{◌≡◌, ℕ, ◌+◌, ◌-◌, ◌*◌, ◌/◌, ◌%◌, ◌<◌, ◌≤◌, List, ◌++◌, length, get_or, Bool, true, false, min, refl, sym, ap, ◌∙◌, arith}
use Rattle.std.specs.Prelude.{ℤ, pos, negsuc, unsigned_abs}
use Rattle.std.specs.Bool.{OnFalse}
use Rattle.std.specs.Int.{int_rem_euclid}
use Rattle.std.proofs.lemmas.List.{get_or-append-add}
use Rattle.jiff_core.proofs.SignedLemmas.{signed_arith}
use Rattle.lf_layout.specs.declared.calendar.CivilDate.{CivilDate}
use Rattle.lf_layout.specs.Calendar.{IsDate}
use Rattle.lf_layout.specs.CalendarLaws.{same-date, of_positive}
use Rattle.lf_layout.specs.Texts.{month_letter, clock_text, sign_letter}
use Rattle.lf_layout.specs.Layouts.{civil_day, second_of_day, IsOffset, date_text, millis_text, zone_text, writes_offset}
use Rattle.lf_layout.specs.Names.{month_of_name}
use Rattle.lf_layout.specs.NameLaws.{name-month}
use Rattle.lf_layout.specs.OffsetLaws.{abs-most}
use Rattle.lf_layout.specs.Readings.{number_at, year_at, date_at, second_at, millis_at, signed_minutes, offset_at, seconds_of}
use Rattle.lf_layout.specs.declared.layout.DateForm.{DateForm}
use Rattle.lf_layout.specs.declared.layout.DateForm.TheVariants.{Iso, Named}
use Rattle.lf_layout.specs.declared.layout.Zone.{Zone}
use Rattle.lf_layout.specs.declared.layout.Zone.TheVariants.{Absent, Zulu, Compact, Colon}

-- fields past others

letter-past : (xs ys : List ℕ) (n i j : ℕ) → length xs ≡ n → j ≡ n + i → get_or (xs ++ ys) j 0 ≡ get_or ys i 0
letter-past xs ys n i j h e =
    ap (λ (k : ℕ). get_or (xs ++ ys) k 0) (e ∙ ap (λ (m : ℕ). m + i) (sym h)) ∙ get_or-append-add xs ys i 0

number-past : (xs ys : List ℕ) (n i j : ℕ) → length xs ≡ n → j ≡ n + i → number_at (xs ++ ys) j ≡ number_at ys i
number-past xs ys n i j h e =
    ap (λ (x : ℕ). 10 * (x - 48) + (get_or (xs ++ ys) (j + 1) 0 - 48)) (letter-past xs ys n i j h e)
    ∙ ap (λ (x : ℕ). 10 * (get_or ys i 0 - 48) + (x - 48)) (letter-past xs ys n (i + 1) (j + 1) h (omega arith))

year-past : (xs ys : List ℕ) (n i j : ℕ) → length xs ≡ n → j ≡ n + i → year_at (xs ++ ys) j ≡ year_at ys i
year-past xs ys n i j h e =
    ap (λ (x : ℕ). 100 * x + number_at (xs ++ ys) (j + 2)) (number-past xs ys n i j h e)
    ∙ ap (λ (x : ℕ). 100 * number_at ys i + x) (number-past xs ys n (i + 2) (j + 2) h (omega arith))

pub date-past : (form : DateForm) (xs ys : List ℕ) (n : ℕ) → length xs ≡ n → date_at form (xs ++ ys) n ≡ date_at form ys 0
date-past Iso xs ys n h = cc (year-past xs ys n 0 n h (omega arith), number-past xs ys n 5 (n + 5) h refl, number-past xs ys n 8 (n + 8) h refl)
date-past Named xs ys n h =
    cc (year-past xs ys n 7 (n + 7) h refl, number-past xs ys n 0 n h (omega arith), letter-past xs ys n 3 (n + 3) h refl, letter-past xs ys n 4 (n + 4) h refl, letter-past xs ys n 5 (n + 5) h refl)

pub second-past : (xs ys : List ℕ) (n : ℕ) → length xs ≡ n → second_at (xs ++ ys) n ≡ second_at ys 0
second-past xs ys n h = cc (number-past xs ys n 0 n h (omega arith), number-past xs ys n 3 (n + 3) h refl, number-past xs ys n 6 (n + 6) h refl)

pub millis-past : (b : Bool) (xs ys : List ℕ) (n : ℕ) → length xs ≡ n → millis_at b (xs ++ ys) n ≡ millis_at b ys 0
millis-past true xs ys n h = cc (letter-past xs ys n 1 (n + 1) h refl, number-past xs ys n 2 (n + 2) h refl)
millis-past false xs ys n h = refl

pub offset-past : (zone : Zone) (xs ys : List ℕ) (n : ℕ) → length xs ≡ n → offset_at zone (xs ++ ys) n ≡ offset_at zone ys 0
offset-past Absent xs ys n h = refl
offset-past Zulu xs ys n h = refl
offset-past Compact xs ys n h = cc (letter-past xs ys n 1 (n + 1) h refl, number-past xs ys n 2 (n + 2) h refl, number-past xs ys n 4 (n + 4) h refl)
offset-past Colon xs ys n h = cc (letter-past xs ys n 0 n h (omega arith), number-past xs ys n 1 (n + 1) h refl, number-past xs ys n 4 (n + 4) h refl)

-- each field at the start

year-back : (y : ℕ) → y ≤ 9999 → 100 * (10 * (48 + y / 100 / 10 - 48) + (48 + y / 100 % 10 - 48)) + (10 * (48 + y % 100 / 10 - 48) + (48 + y % 100 % 10 - 48)) ≡ y
year-back y h = omega arith

two-back : (n : ℕ) → 10 * (48 + n / 10 - 48) + (48 + n % 10 - 48) ≡ n
two-back n = omega arith

month-back : (m : ℕ) → 1 ≤ m → m ≤ 12 → month_of_name (month_letter (m - 1) 0) (month_letter (m - 1) 1) (month_letter (m - 1) 2) + 1 ≡ m
month-back m h k = omega (arith, name-month (m - 1) (omega arith))

pub date-back : (form : DateForm) (date : CivilDate) (tail : List ℕ) → IsDate date → date_at form (date_text form date ++ tail) 0 ≡ date
date-back Iso date tail is = same-date _ _ _ date.year date.month date.day (year-back date.year is.year_most) (two-back date.month) (two-back date.day)
date-back Named date tail is = same-date _ _ _ date.year date.month date.day (year-back date.year is.year_most) (month-back date.month is.some_month is.month_most) (two-back date.day)

clock-back : (s : ℕ) → 3600 * (10 * (48 + s / 3600 / 10 - 48) + (48 + s / 3600 % 10 - 48)) + 60 * (10 * (48 + s / 60 % 60 / 10 - 48) + (48 + s / 60 % 60 % 10 - 48)) + (10 * (48 + s % 60 / 10 - 48) + (48 + s % 60 % 10 - 48)) ≡ s
clock-back s = omega arith

pub second-back : (s : ℕ) (tail : List ℕ) → second_at (clock_text s ++ tail) 0 ≡ s
second-back s tail = clock-back s

three-back : (n : ℕ) → 100 * (48 + n / 100 - 48) + (10 * (48 + n % 100 / 10 - 48) + (48 + n % 100 % 10 - 48)) ≡ n
three-back n = omega arith

pub millis-back : (b : Bool) (n : ℕ) (tail : List ℕ) → OnFalse b (n ≡ 0) → millis_at b (millis_text b n ++ tail) 0 ≡ n
millis-back true n tail h = three-back n
millis-back false n tail h = sym h

minutes-back : (n : ℕ) → n ≤ 1439 → min (60 * (10 * (48 + n / 60 / 10 - 48) + (48 + n / 60 % 10 - 48)) + (10 * (48 + n % 60 / 10 - 48) + (48 + n % 60 % 10 - 48))) 1439 ≡ n
minutes-back n h = omega arith

sign-back : (offset : ℤ) → signed_minutes (sign_letter offset) (unsigned_abs offset) ≡ offset
sign-back (pos n) = refl
sign-back (negsuc n) = refl

pub offset-back : (zone : Zone) (offset : ℤ) (tail : List ℕ) → IsOffset offset → OnFalse (writes_offset zone) (offset ≡ pos 0) → offset_at zone (zone_text zone offset ++ tail) 0 ≡ offset
offset-back Absent offset tail h e = sym e
offset-back Zulu offset tail h e = sym e
offset-back Compact offset tail h e = ap (signed_minutes (sign_letter offset)) (minutes-back (unsigned_abs offset) (abs-most offset h)) ∙ sign-back offset
offset-back Colon offset tail h e = ap (signed_minutes (sign_letter offset)) (minutes-back (unsigned_abs offset) (abs-most offset h)) ∙ sign-back offset

-- seconds, days and times of day

pub second_of_day-less : (s : ℤ) → second_of_day s < 86400
unfolding second_of_day
second_of_day-less s = omega (arith, signed_arith)

pub seconds-parts : (s : ℤ) → seconds_of (civil_day s) (second_of_day s) ≡ s
unfolding civil_day second_of_day
seconds-parts s =
    let e = of_positive (int_rem_euclid s (pos 86400)) (omega (arith, signed_arith)) in
    omega (arith, signed_arith, e)
