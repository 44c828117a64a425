-- Which time of a layout is printed first.
use Rattle.std.proofs.Common.{◌≡◌, ℕ, ◌<◌, ◌≤◌, List, [], ◌∷◌, ◌++◌, Bool, true, false, refl, sym, subst, arith, inr}
use Rattle.std.specs.Prelude.{ℤ, pos, neg_ℤ, ◌≤ℤ◌}
use Rattle.std.specs.Bool.{OnFalse}
use Rattle.std.proofs.lemmas.Int.{ints}
use Rattle.lf_core.specs.declared.values.Moment.{Moment as OneMoment}
use Rattle.lf_core.specs.declared.values.Value.TheVariants.{Moment, Day, Clock}
use Rattle.lf_layout.specs.Calendar.{IsDate, civil_date, date_after}
use Rattle.lf_layout.specs.CalendarLaws.{civil_date-is}
use Rattle.lf_layout.specs.LayoutLaws.{day-in}
use Rattle.lf_layout.specs.ReadingLaws.{second_of_day-less}
use Rattle.lf_layout.specs.OffsetLaws.{abs-most}
use Rattle.lf_layout.specs.Texts.{three, letter_if, iso_date_text, clock_text, offset_text}
use Rattle.lf_layout.specs.Layouts.{civil_day, second_of_day, IsMoment, IsShown, date_text, millis_text, zone_text, writes_offset, layout_text}
use Rattle.lf_layout.specs.declared.calendar.CivilDate.{CivilDate}
use Rattle.lf_layout.specs.declared.layout.DateForm.{DateForm}
use Rattle.lf_layout.specs.declared.layout.DateForm.TheVariants.{Iso, Named}
use Rattle.lf_layout.specs.declared.layout.Zone.{Zone}
use Rattle.lf_layout.specs.declared.layout.Zone.TheVariants.{Absent, Zulu, Compact, Colon}
use Rattle.lf_layout.specs.declared.layout.Layout.{Layout}
use Rattle.lf_time.specs.TimeLayouts.{clf_layout, iso_offset_layout, iso_millis_layout, ha_layout}
use Rattle.lf_time.specs.declared.clf_time.ClfTime.{ClfTime}
use Rattle.lf_time.specs.declared.ha_time.HaTime.{HaTime}
use Rattle.lf_time.specs.declared.iso_offset.IsoOffset.{IsoOffset}
use Rattle.lf_time.specs.declared.iso_millis_z.IsoMillisZ.{IsoMillisZ}
use Rattle.lf_time.specs.declared.w3c_date.W3cDate.{W3cDate}
use Rattle.lf_time.specs.declared.w3c_clock.W3cClock.{W3cClock}
use Rattle.lf_escape.specs.declared.coding.Coding.{Coding}
use Rattle.lf_format.specs.Kinds.{HoldsKind}
use Rattle.lf_format.specs.TimeValueLaws.{time-present}
use Rattle.lf_format.specs.declared.kind.Kind.TheVariants as kind
use Rattle.lf_gen.specs.First.{AreFirst, first_moment}
use Rattle.lf_gen.proofs.TimeOrder.{Upto, upto-before, upto-append, upto-cons, iso-upto, named-upto, clock-upto, offset-upto, millis-upto}

module _ (code : Coding) where
  millis-part : (here : Bool) (n : ℕ) → n ≤ 999 → Upto code (millis_text here 0) (millis_text here n)
  millis-part true n h = upto-cons code 46 (three 0) (three n) (millis-upto code n h)
  millis-part false n h = inr refl

  zone-part : (zone : Zone) (z : ℤ) → (neg_ℤ (pos 1439) ≤ℤ z) × (z ≤ℤ pos 1439) → Upto code (zone_text zone (pos 0)) (zone_text zone z)
  zone-part Absent z h = inr refl
  zone-part Zulu z h = inr refl
  zone-part Compact z h = upto-cons code 32 (offset_text false (pos 0)) (offset_text false z) (offset-upto code false z (abs-most z h))
  zone-part Colon z h = offset-upto code true z (abs-most z h)

  -- the parts of a moment's text
  abbrev parts : Layout → CivilDate → ℕ → ℕ → ℤ → List ℕ
  parts layout date second millis offset =
      letter_if layout.bracketed 91 ++ date_text layout.date date ++ layout.between ∷ clock_text second
      ++ millis_text layout.millis millis ++ zone_text layout.zone offset ++ letter_if layout.bracketed 93

  parts-upto : (layout : Layout) (first date : CivilDate) (second millis : ℕ) (offset : ℤ) → Upto code (date_text layout.date first) (date_text layout.date date) →
      second < 86400 → millis ≤ 999 → (neg_ℤ (pos 1439) ≤ℤ offset) × (offset ≤ℤ pos 1439) →
      Upto code (parts layout first 0 0 (pos 0)) (parts layout date second millis offset)
  parts-upto layout first date second millis offset dates s m o =
      let a = letter_if layout.bracketed 91 in
      let d = date_text layout.date first in
      let e = date_text layout.date date in
      let b = layout.between in
      let z = letter_if layout.bracketed 93 in
      let one = upto-append code a a d e (inr refl) dates in
      let two = upto-append code (a ++ d) (a ++ e) (b ∷ clock_text 0) (b ∷ clock_text second) one (upto-cons code b (clock_text 0) (clock_text second) (clock-upto code second s)) in
      let three = upto-append code (a ++ d ++ b ∷ clock_text 0) (a ++ e ++ b ∷ clock_text second) (millis_text layout.millis 0) (millis_text layout.millis millis) two (millis-part layout.millis millis m) in
      let four = upto-append code (a ++ d ++ b ∷ clock_text 0 ++ millis_text layout.millis 0) (a ++ e ++ b ∷ clock_text second ++ millis_text layout.millis millis) (zone_text layout.zone (pos 0)) (zone_text layout.zone offset) three (zone-part layout.zone offset o) in
      upto-append code (a ++ d ++ b ∷ clock_text 0 ++ millis_text layout.millis 0 ++ zone_text layout.zone (pos 0)) (a ++ e ++ b ∷ clock_text second ++ millis_text layout.millis millis ++ zone_text layout.zone offset) z z four (inr refl)

  -- A moment at a day's start is printed before each whose date is not before its own.
  moment-upto : (layout : Layout) (first : CivilDate) (seconds : ℤ) → civil_date (civil_day seconds) ≡ first → second_of_day seconds ≡ 0 →
      ((date : CivilDate) → IsDate date → Upto code (date_text layout.date first) (date_text layout.date date)) → (m : OneMoment) → IsMoment m →
      Upto code (layout_text layout (record { seconds = seconds; millis = 0; offset = pos 0 })) (layout_text layout m)
  moment-upto layout first seconds date second dates m is =
      let day = civil_day m.seconds in
      let held = (civil_date-is day (day-in m.seconds is.0 is.1)).0 in
      let known = parts-upto layout first (civil_date day) (second_of_day m.seconds) m.millis m.offset (dates (civil_date day) held) (second_of_day-less m.seconds) is.2 (is.3, is.4) in
      subst (λ (d : CivilDate). Upto code (parts layout d (second_of_day seconds) 0 (pos 0)) (layout_text layout m)) (sym date)
      (subst (λ (s : ℕ). Upto code (parts layout first s 0 (pos 0)) (layout_text layout m)) (sym second) known)

-- ---- the first dates

first-day : civil_date (civil_day (neg_ℤ (pos 62135596800))) ≡ record { year = 1; month = 1; day = 1 }
unfolding civil_day date_after
first-day = refl

first-second : second_of_day (neg_ℤ (pos 62135596800)) ≡ 0
unfolding second_of_day
first-second = refl

named-day : civil_date (civil_day (neg_ℤ (pos 62127820800))) ≡ record { year = 1; month = 4; day = 1 }
unfolding civil_day date_after
named-day = refl

named-second : second_of_day (neg_ℤ (pos 62127820800)) ≡ 0
unfolding second_of_day
named-second = refl

first-upto : (code : Coding) (layout : Layout) → layout.date ≡ Iso → (m : OneMoment) → IsMoment m → Upto code (layout_text layout (first_moment (neg_ℤ (pos 62135596800)))) (layout_text layout m)
first-upto code layout iso m is =
    moment-upto code layout (record { year = 1; month = 1; day = 1 }) (neg_ℤ (pos 62135596800)) first-day first-second
    (λ date held. subst (λ (form : DateForm). Upto code (date_text form (record { year = 1; month = 1; day = 1 })) (date_text form date)) (sym iso) (iso-upto code date held)) m is

named_first-upto : (code : Coding) (layout : Layout) → layout.date ≡ Named → (m : OneMoment) → IsMoment m → Upto code (layout_text layout (first_moment (neg_ℤ (pos 62127820800)))) (layout_text layout m)
named_first-upto code layout named m is =
    moment-upto code layout (record { year = 1; month = 4; day = 1 }) (neg_ℤ (pos 62127820800)) named-day named-second
    (λ date held. subst (λ (form : DateForm). Upto code (date_text form (record { year = 1; month = 4; day = 1 })) (date_text form date)) (sym named) (named-upto code date held)) m is

-- ---- each domain

on-false : {P : Type 0} (b : Bool) → P → OnFalse b P
on-false true p = tt
on-false false p = p

first-shown : (layout : Layout) → IsShown layout (first_moment (neg_ℤ (pos 62135596800)))
first-shown layout = ((omega (arith, ints), omega (arith, ints), omega arith, omega (arith, ints), omega (arith, ints)), on-false layout.millis refl, on-false (writes_offset layout.zone) refl)

named-shown : (layout : Layout) → IsShown layout (first_moment (neg_ℤ (pos 62127820800)))
named-shown layout = ((omega (arith, ints), omega (arith, ints), omega arith, omega (arith, ints), omega (arith, ints)), on-false layout.millis refl, on-false (writes_offset layout.zone) refl)

pub clf-first : (code : Coding) (d : ClfTime) → AreFirst (kind.Clf d) code (Moment (first_moment (neg_ℤ (pos 62127820800))) ∷ [])
clf-first code d absent quoted (Moment m) h =
    let layout = clf_layout d.bracketed in
    let v = Moment (first_moment (neg_ℤ (pos 62127820800))) in
    (v, (0, omega arith, refl), (named-shown layout, time-present (kind.Clf d) absent quoted v tt (named-shown layout)), upto-before code _ _ (named_first-upto code layout refl m h.0.0))
clf-first code d absent quoted v h = absurd h.0

pub ha-first : (code : Coding) (d : HaTime) → AreFirst (kind.Ha d) code (Moment (first_moment (neg_ℤ (pos 62127820800))) ∷ [])
ha-first code d absent quoted (Moment m) h =
    let v = Moment (first_moment (neg_ℤ (pos 62127820800))) in
    (v, (0, omega arith, refl), (named-shown ha_layout, time-present (kind.Ha d) absent quoted v tt (named-shown ha_layout)), upto-before code _ _ (named_first-upto code ha_layout refl m h.0.0))
ha-first code d absent quoted v h = absurd h.0

pub iso-first : (code : Coding) (d : IsoOffset) → AreFirst (kind.Iso d) code (Moment (first_moment (neg_ℤ (pos 62135596800))) ∷ [])
iso-first code d absent quoted (Moment m) h =
    let v = Moment (first_moment (neg_ℤ (pos 62135596800))) in
    (v, (0, omega arith, refl), (first-shown iso_offset_layout, time-present (kind.Iso d) absent quoted v tt (first-shown iso_offset_layout)), upto-before code _ _ (first-upto code iso_offset_layout refl m h.0.0))
iso-first code d absent quoted v h = absurd h.0

pub millis-first : (code : Coding) (d : IsoMillisZ) → AreFirst (kind.IsoMillis d) code (Moment (first_moment (neg_ℤ (pos 62135596800))) ∷ [])
millis-first code d absent quoted (Moment m) h =
    let v = Moment (first_moment (neg_ℤ (pos 62135596800))) in
    (v, (0, omega arith, refl), (first-shown iso_millis_layout, time-present (kind.IsoMillis d) absent quoted v tt (first-shown iso_millis_layout)), upto-before code _ _ (first-upto code iso_millis_layout refl m h.0.0))
millis-first code d absent quoted v h = absurd h.0

first-date : civil_date (neg_ℤ (pos 719162)) ≡ record { year = 1; month = 1; day = 1 }
unfolding date_after
first-date = refl

pub date-first : (code : Coding) (d : W3cDate) → AreFirst (kind.Date d) code (Day (neg_ℤ (pos 719162)) ∷ [])
date-first code d absent quoted (Day day) h =
    let v = Day (neg_ℤ (pos 719162)) in
    let shown : HoldsKind (kind.Date d) v = (omega (arith, ints), omega (arith, ints)) in
    let held = (civil_date-is day h.0).0 in (
      v,
      (0, omega arith, refl),
      (shown, time-present (kind.Date d) absent quoted v tt shown),
      upto-before code _ _ (subst (λ (e : CivilDate). Upto code (iso_date_text e) (iso_date_text (civil_date day))) (sym first-date) (iso-upto code (civil_date day) held)),
    )
date-first code d absent quoted v h = absurd h.0

pub clock-first : (code : Coding) (d : W3cClock) → AreFirst (kind.Clock d) code (Clock 0 ∷ [])
clock-first code d absent quoted (Clock s) h =
    let shown : HoldsKind (kind.Clock d) (Clock 0) = omega arith in
    (Clock 0, (0, omega arith, refl), (shown, time-present (kind.Clock d) absent quoted (Clock 0) tt shown), upto-before code _ _ (clock-upto code s h.0))
clock-first code d absent quoted v h = absurd h.0
