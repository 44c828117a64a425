-- Texts joined of fields.
use Rattle.std.proofs.Common.{◌≡◌, ℕ, zero, suc, ◌+◌, ◌*◌, ◌/◌, ◌%◌, ◌<◌, ◌≤◌, Bool, true, false, cond, List, ◌∷◌, ◌++◌, refl, sym, ap, ◌∙◌, arith, append_assoc}
use Rattle.std.specs.Prelude.{pos, neg_ℤ}
use Rattle.std.specs.Bool.{OnFalse}
use Rattle.jiff_core.proofs.SignedLemmas.{signed_arith}
use Rattle.lf_layout.specs.declared.calendar.CivilDate.{CivilDate}
use Rattle.lf_layout.specs.declared.layout.Layout.{Layout}
use Rattle.lf_layout.specs.Calendar.{civil_date, day_number}
use Rattle.lf_layout.specs.CalendarLaws.{day_number-is}
use Rattle.lf_layout.specs.LayoutLaws.{civil_day-is, second_of_day-is, seconds-in}
use Rattle.lf_layout.specs.Layouts.{IsOffset, IsShown, civil_day, second_of_day, date_text, layout_text, millis_text, writes_offset, zone_text}
use Rattle.lf_layout.specs.Readings.{seconds_of}
use Rattle.lf_layout.specs.Texts.{clock_text, letter_if, month_name, named_date_text, offset_text, two}
use Rattle.lf_stamp.specs.Fields.{KeepsStamp, KeepsTime, date_of, magnitude_of, minutes_of, moment_of, second_of, stamp_text}
use Rattle.lf_stamp.specs.declared.stamp.Stamp.{Stamp}
use Rattle.lf_stamp.specs.declared.time_of_day.TimeOfDay.{TimeOfDay}

-- A date with the month's name.
pub named-joined : (text a b c d e left : List ℕ) (day month century year : ℕ) → year < 100 → text ≡ two day ++ a → a ≡ 47 ∷ b → b ≡ month_name month ++ c → c ≡ 47 ∷ d → d ≡ two century ++ e → e ≡ two year ++ left
    → text ≡ named_date_text (record { year = 100 * century + year; month = month; day = day }) ++ left
named-joined text a b c d e left day month century year h p q r s t u =
    let high : (100 * century + year) / 100 ≡ century = omega (arith, h) in
    let low : (100 * century + year) % 100 ≡ year = omega (arith, h) in
    cc

behind-text : (colon : Bool) (n : ℕ) → 1 ≤ n → offset_text colon (neg_ℤ (pos n)) ≡ 45 ∷ two (n / 60) ++ letter_if colon 58 ++ two (n % 60)
behind-text colon zero h = absurd (omega (arith, h))
behind-text colon (suc n) h = refl

-- An offset with its sign.
pub offset-joined : (colon behind : Bool) (text a b c left : List ℕ) (hour minute : ℕ) → minute < 60 → (behind ≡ true → 1 ≤ 60 * hour + minute) → text ≡ cond behind 45 43 ∷ a → a ≡ two hour ++ b → b ≡ letter_if colon 58 ++ c → c ≡ two minute ++ left
    → text ≡ offset_text colon (cond behind (neg_ℤ (pos (60 * hour + minute))) (pos (60 * hour + minute))) ++ left
offset-joined true true text a b c left hour minute h some p q r s =
    let high : (60 * hour + minute) / 60 ≡ hour = omega (arith, h) in
    let low : (60 * hour + minute) % 60 ≡ minute = omega (arith, h) in
    let t = behind-text true (60 * hour + minute) (some refl) in
    cc
offset-joined false true text a b c left hour minute h some p q r s =
    let high : (60 * hour + minute) / 60 ≡ hour = omega (arith, h) in
    let low : (60 * hour + minute) % 60 ≡ minute = omega (arith, h) in
    let t = behind-text false (60 * hour + minute) (some refl) in
    cc
offset-joined true false text a b c left hour minute h some p q r s =
    let high : (60 * hour + minute) / 60 ≡ hour = omega (arith, h) in
    let low : (60 * hour + minute) % 60 ≡ minute = omega (arith, h) in
    cc
offset-joined false false text a b c left hour minute h some p q r s =
    let high : (60 * hour + minute) / 60 ≡ hour = omega (arith, h) in
    let low : (60 * hour + minute) % 60 ≡ minute = omega (arith, h) in
    cc

then : (text a rest b left : List ℕ) → text ≡ a ++ rest → rest ≡ b ++ left → text ≡ (a ++ b) ++ left
then text a rest b left e f = e ∙ ap (λ (t : List ℕ). a ++ t) f ∙ sym (append_assoc a b left)

-- Six parts, of which the third begins with a byte.
pub parts-joined : (between : ℕ) (text a b c d e f left t1 t2 t3 t4 t5 t6 : List ℕ) → text ≡ a ++ t1 → t1 ≡ b ++ t2 → t2 ≡ between ∷ t3 → t3 ≡ c ++ t4 → t4 ≡ d ++ t5 → t5 ≡ e ++ t6 → t6 ≡ f ++ left
    → text ≡ (a ++ b ++ between ∷ c ++ d ++ e ++ f) ++ left
parts-joined between text a b c d e f left t1 t2 t3 t4 t5 t6 p q r s t u v =
    let clock : t2 ≡ (between ∷ c) ++ t4 = r ∙ ap (λ (x : List ℕ). between ∷ x) s in
    let one = then text a t1 b t2 p q in
    let two_ = then text (a ++ b) t2 (between ∷ c) t4 one clock in
    let three_ = then text (a ++ b ++ between ∷ c) t4 d t5 two_ t in
    let four_ = then text (a ++ b ++ between ∷ c ++ d) t5 e t6 three_ u in
    then text (a ++ b ++ between ∷ c ++ d ++ e) t6 f left four_ v

second-less : (t : TimeOfDay) → KeepsTime t → second_of t < 86400
second-less t k = omega (arith, k.hour, k.minute, k.second)

-- The moment of the fields is written as the fields are.
pub moment-text : (layout : Layout) (s : Stamp) → KeepsStamp s → stamp_text layout s ≡ layout_text layout (moment_of s)
moment-text layout s k =
    let date = date_of s.date in
    let second = second_of s.time in
    let less = second-less s.time k.time in
    let days = day_number-is (date_of s.date) k.date.is_date in
    let day : civil_date (civil_day (seconds_of (day_number (date_of s.date)) (second_of s.time))) ≡ date_of s.date = ap civil_date (civil_day-is (day_number date) second less) ∙ days.1 in
    let clock : second_of_day (seconds_of (day_number (date_of s.date)) (second_of s.time)) ≡ second_of s.time = second_of_day-is (day_number date) second less in
    let text : CivilDate → ℕ → List ℕ = λ (x : CivilDate) (n : ℕ).
    letter_if layout.bracketed 91 ++ date_text layout.date x ++ layout.between ∷ clock_text n
    ++ millis_text layout.millis s.millis ++ zone_text layout.zone (minutes_of s.offset) ++ letter_if layout.bracketed 93 in
    ap (λ (x : CivilDate). text x second) (sym day) ∙ ap (λ (n : ℕ). text (civil_date (civil_day (seconds_of (day_number (date_of s.date)) (second_of s.time)))) n) (sym clock)

offset-in : (behind : Bool) (n : ℕ) → n ≤ 1439 → IsOffset (cond behind (neg_ℤ (pos n)) (pos n))
offset-in true n h = (omega (arith, signed_arith, h), omega (arith, signed_arith, h))
offset-in false n h = (omega (arith, signed_arith, h), omega (arith, signed_arith, h))

-- The layout shows the moment of the fields.
pub moment-shown : (layout : Layout) (s : Stamp) → KeepsStamp s → OnFalse layout.millis (s.millis ≡ 0) → OnFalse (writes_offset layout.zone) (minutes_of s.offset ≡ pos 0) → IsShown layout (moment_of s)
moment-shown layout s k m z =
    let days = day_number-is (date_of s.date) k.date.is_date in
    let r = seconds-in (day_number (date_of s.date)) (second_of s.time) days.0 (second-less s.time k.time) in
    let o = offset-in s.offset.behind (magnitude_of s.offset) (omega (arith, k.offset.hour, k.offset.minute)) in
    ((r.0, r.1, omega (arith, k.millis), o.0, o.1), m, z)
