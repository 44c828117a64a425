-- The plain texts of times: they begin with a digit or a bracket, and hold no line feed.
use Rattle.std.proofs.Common.{◌≡◌, ℕ, zero, suc, ◌+◌, ◌-◌, ◌*◌, ◌/◌, ◌%◌, Bool, true, false, List, [], ◌∷◌, ◌++◌, get_or, refl, arith}
use Rattle.std.specs.Prelude.{ℤ, pos, negsuc, All, unsigned_abs, codes}
use Rattle.std.specs.List.{list_all}
use Rattle.std.proofs.lemmas.Bool.{and_parts}
use Rattle.std.proofs.lemmas.Bool.Decides.{nat_tests}
use Rattle.std.proofs.lemmas.List.Elements.{All-nil, All-cons, All-append}
use Rattle.lf_core.specs.declared.values.Moment.{Moment}
use Rattle.lf_core.specs.declared.values.Value.{Value}
use Rattle.lf_core.specs.declared.values.Value.TheVariants.{Moment as a_moment, Day as a_day, Clock as a_clock}
use Rattle.lf_layout.specs.declared.calendar.CivilDate.{CivilDate}
use Rattle.lf_layout.specs.Calendar.{civil_date}
use Rattle.lf_layout.specs.Texts.{two, three, four, month_letter, month_name, clock_text, sign_letter, letter_if, offset_text}
use Rattle.lf_layout.specs.Layouts.{civil_day, second_of_day, date_text, millis_text, zone_text, layout_text, HoldsMoment, moment_text, HoldsDay, day_text, HoldsClock, time_text}
use Rattle.lf_layout.specs.declared.layout.DateForm.{DateForm}
use Rattle.lf_layout.specs.declared.layout.DateForm.TheVariants.{Iso, Named}
use Rattle.lf_layout.specs.declared.layout.Zone.{Zone}
use Rattle.lf_layout.specs.declared.layout.Zone.TheVariants.{Absent, Zulu, Compact, Colon}
use Rattle.lf_layout.specs.declared.layout.Layout.{Layout}
use Rattle.lf_format.specs.Keeps.{is_no_feed}
use Rattle.lf_format.specs.PlainTextLaws.{BeginsHigh, begins-more}

-- ---- the first letter

date-begins : (form : DateForm) (date : CivilDate) → BeginsHigh (date_text form date)
date-begins Iso date = record { first = 48 + date.year / 100 / 10; rest = _; is = refl; least = omega arith }
date-begins Named date = record { first = 48 + date.day / 10; rest = _; is = refl; least = omega arith }

bracket-begins : (bracketed : Bool) (text : List ℕ) → BeginsHigh text → BeginsHigh (letter_if bracketed 91 ++ text)
bracket-begins true text h = record { first = 91; rest = text; is = refl; least = omega arith }
bracket-begins false text h = h

layout-begins : (layout : Layout) (m : Moment) → BeginsHigh (layout_text layout m)
layout-begins layout m =
    let date = date_text layout.date (civil_date (civil_day m.seconds)) in
    let first = letter_if layout.bracketed 91 ++ date in
    let time = layout.between ∷ clock_text (second_of_day m.seconds) in
    let millis = millis_text layout.millis m.millis in
    let zone = zone_text layout.zone m.offset in
    begins-more (first ++ time ++ millis ++ zone) (letter_if layout.bracketed 93)
    (begins-more (first ++ time ++ millis) zone
    (begins-more (first ++ time) millis
    (begins-more first time
    (bracket-begins layout.bracketed date (date-begins layout.date (civil_date (civil_day m.seconds)))))))

pub moment-begins : (layout : Layout) (v : Value) → HoldsMoment layout v → BeginsHigh (moment_text layout v)
moment-begins layout (a_moment m) h = layout-begins layout m
moment-begins layout v h = absurd h

pub day-begins : (v : Value) → HoldsDay v → BeginsHigh (day_text v)
day-begins (a_day day) h = date-begins Iso (civil_date day)
day-begins v h = absurd h

pub clock-begins : (v : Value) → HoldsClock v → BeginsHigh (time_text v)
clock-begins (a_clock second) h = record { first = 48 + second / 3600 / 10; rest = _; is = refl; least = omega arith }
clock-begins v h = absurd h

-- ---- no line feed

abbrev IsClear : ℕ → Type 0
IsClear letter = is_no_feed letter ≡ true

-- No letter is a line feed.
abbrev pub AllClear : List ℕ → Type 0
AllClear text = All (λ letter. is_no_feed letter ≡ true) text

-- the same as a record, from which a text can be read
record Clear (text : List ℕ) : Type 0 where
  all : All (λ letter. is_no_feed letter ≡ true) text

none-clear : Clear []
none-clear = record { all = All-nil IsClear }

then-clear : {letter : ℕ} {text : List ℕ} → IsClear letter → Clear text → Clear (letter ∷ text)
then-clear {letter} {text} h more = record { all = All-cons IsClear letter text h more.all }

both-clear : (a b : List ℕ) → Clear a → Clear b → Clear (a ++ b)
both-clear a b h k = record { all = All-append IsClear a b h.all k.all }

digit-clear : (n : ℕ) → IsClear (48 + n)
digit-clear n = grind (arith, nat_tests)

two-clear : (n : ℕ) → Clear (two n)
two-clear n = then-clear (digit-clear (n / 10)) (then-clear (digit-clear (n % 10)) none-clear)

three-clear : (n : ℕ) → Clear (three n)
three-clear n = then-clear (digit-clear (n / 100)) (two-clear (n % 100))

four-clear : (n : ℕ) → Clear (four n)
four-clear n = both-clear (two (n / 100)) (two (n % 100)) (two-clear (n / 100)) (two-clear (n % 100))

letter-clear : (letters : List ℕ) (at : ℕ) → list_all is_no_feed letters ≡ true → IsClear (get_or letters at 0)
letter-clear [] at h = refl
letter-clear (letter ∷ letters) zero h = (and_parts (is_no_feed letter) (list_all is_no_feed letters) h).0
letter-clear (letter ∷ letters) (suc at) h = letter-clear letters at (and_parts (is_no_feed letter) (list_all is_no_feed letters) h).1

month_letter-clear : (month at : ℕ) → IsClear (month_letter month at)
unfolding month_letter
month_letter-clear month at = letter-clear (codes "JanFebMarAprMayJunJulAugSepOctNovDec") (3 * month + at) refl

month-clear : (month : ℕ) → Clear (month_name month)
month-clear month = then-clear (month_letter-clear (month - 1) 0) (then-clear (month_letter-clear (month - 1) 1) (then-clear (month_letter-clear (month - 1) 2) none-clear))

date-clear : (form : DateForm) (date : CivilDate) → Clear (date_text form date)
date-clear Iso date =
    both-clear (four date.year) (45 ∷ two date.month ++ 45 ∷ two date.day) (four-clear date.year)
    (then-clear refl (both-clear (two date.month) (45 ∷ two date.day) (two-clear date.month) (then-clear refl (two-clear date.day))))
date-clear Named date =
    both-clear (two date.day) (47 ∷ month_name date.month ++ 47 ∷ four date.year) (two-clear date.day)
    (then-clear refl (both-clear (month_name date.month) (47 ∷ four date.year) (month-clear date.month) (then-clear refl (four-clear date.year))))

time-clear : (second : ℕ) → Clear (clock_text second)
time-clear second =
    both-clear (two (second / 3600)) (58 ∷ two (second / 60 % 60) ++ 58 ∷ two (second % 60)) (two-clear (second / 3600))
    (then-clear refl (both-clear (two (second / 60 % 60)) (58 ∷ two (second % 60)) (two-clear (second / 60 % 60)) (then-clear refl (two-clear (second % 60)))))

letter_if-clear : (there : Bool) (letter : ℕ) → IsClear letter → Clear (letter_if there letter)
letter_if-clear true letter h = then-clear h none-clear
letter_if-clear false letter h = none-clear

sign-clear : (offset : ℤ) → IsClear (sign_letter offset)
sign-clear (pos n) = refl
sign-clear (negsuc n) = refl

offset-clear : (colon : Bool) (offset : ℤ) → Clear (offset_text colon offset)
offset-clear colon offset =
    let minutes = two (unsigned_abs offset % 60) in
    then-clear (sign-clear offset)
    (both-clear (two (unsigned_abs offset / 60)) (letter_if colon 58 ++ minutes) (two-clear (unsigned_abs offset / 60))
    (both-clear (letter_if colon 58) minutes (letter_if-clear colon 58 refl) (two-clear (unsigned_abs offset % 60))))

millis-clear : (there : Bool) (millis : ℕ) → Clear (millis_text there millis)
millis-clear true millis = then-clear refl (three-clear millis)
millis-clear false millis = none-clear

zone-clear : (zone : Zone) (offset : ℤ) → Clear (zone_text zone offset)
zone-clear Absent offset = none-clear
zone-clear Zulu offset = then-clear refl none-clear
zone-clear Compact offset = then-clear refl (offset-clear false offset)
zone-clear Colon offset = offset-clear true offset

layout-clear : (layout : Layout) → IsClear layout.between → (m : Moment) → Clear (layout_text layout m)
layout-clear layout between m =
    let date = date_text layout.date (civil_date (civil_day m.seconds)) in
    let start = letter_if layout.bracketed 91 in
    let time = layout.between ∷ clock_text (second_of_day m.seconds) in
    let millis = millis_text layout.millis m.millis in
    let zone = zone_text layout.zone m.offset in
    both-clear (start ++ date ++ time ++ millis ++ zone) (letter_if layout.bracketed 93)
    (both-clear (start ++ date ++ time ++ millis) zone
    (both-clear (start ++ date ++ time) millis
    (both-clear (start ++ date) time
    (both-clear start date (letter_if-clear layout.bracketed 91 refl) (date-clear layout.date (civil_date (civil_day m.seconds))))
    (then-clear between (time-clear (second_of_day m.seconds))))
    (millis-clear layout.millis m.millis))
    (zone-clear layout.zone m.offset))
    (letter_if-clear layout.bracketed 93 refl)

pub moment-clear : (layout : Layout) → is_no_feed layout.between ≡ true → (v : Value) → AllClear (moment_text layout v)
moment-clear layout between (a_moment m) = (layout-clear layout between m).all
moment-clear layout between v = All-nil IsClear

pub day-clear : (v : Value) → AllClear (day_text v)
day-clear (a_day day) = (date-clear Iso (civil_date day)).all
day-clear v = All-nil IsClear

pub clock-clear : (v : Value) → AllClear (time_text v)
clock-clear (a_clock second) = (time-clear second).all
clock-clear v = All-nil IsClear
