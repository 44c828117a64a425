-- A layout's places read just the texts of what it holds.
use Rattle.std.proofs.Common.{◌≡◌, ℕ, ◌<◌, ◌≤◌, List, [], ◌∷◌, ◌++◌, length, Bool, true, false, cond, refl, sym, ap, subst, ◌∙◌, arith, append_assoc}
use Rattle.std.specs.Prelude.{ℤ, pos, neg_ℤ, ◌≤ℤ◌}
use Rattle.std.specs.Bool.{OnFalse}
use Rattle.std.specs.Int.{int_rem_euclid}
use Rattle.std.proofs.lemmas.List.{length-append}
use Rattle.jiff_core.proofs.SignedLemmas.{signed_arith}
use Rattle.lf_core.specs.declared.values.Moment.{Moment}
use Rattle.lf_layout.specs.declared.calendar.CivilDate.{CivilDate}
use Rattle.lf_layout.specs.Calendar.{IsDate, IsDay, day_number, civil_date}
use Rattle.lf_layout.specs.CalendarLaws.{civil_date-is, day_number-is, of_positive}
use Rattle.lf_layout.specs.Texts.{three, clock_text, letter_if, offset_text}
use Rattle.lf_layout.specs.Layouts.{civil_day, second_of_day, IsOffset, date_text, millis_text, zone_text, writes_offset, layout_text, IsShown}
use Rattle.lf_layout.specs.Places.{clock_places, date_places, millis_places, places_if, offset_places, zone_places, layout_places}
use Rattle.lf_layout.specs.PlaceLaws.{run}
use Rattle.lf_layout.specs.FieldLaws.{IsField, then, relabelled, byte-writes, byte-reads, forget-writes, forget-reads, three-field, clock-field}
use Rattle.lf_layout.specs.DateLaws.{date-field, date_exit}
use Rattle.lf_layout.specs.OffsetLaws.{may-write, may-read, offset-field}
use Rattle.lf_layout.specs.Readings.{date_at, second_at, millis_at, offset_at, date_width, date_place, clock_place, millis_place, zone_place, seconds_of, moment_at}
use Rattle.lf_layout.specs.ReadingLaws.{date-past, second-past, millis-past, offset-past, date-back, second-back, millis-back, offset-back, second_of_day-less, seconds-parts}
use Rattle.lf_layout.specs.declared.layout.DateForm.{DateForm}
use Rattle.lf_layout.specs.declared.layout.DateForm.TheVariants.{Iso, Named}
use Rattle.lf_layout.specs.declared.layout.Zone.{Zone}
use Rattle.lf_layout.specs.declared.layout.Zone.TheVariants.{Absent, Zulu, Compact, Colon}
use Rattle.lf_layout.specs.declared.layout.Layout.{Layout}
use Rattle.lf_layout.specs.declared.place.Place.{Place}
use Rattle.lf_layout.specs.declared.place.Place.TheVariants.{Forget, Digit}

-- the day and the second of a moment's seconds

pub civil_day-is : (day : ℤ) (second : ℕ) → second < 86400 → civil_day (seconds_of day second) ≡ day
unfolding civil_day
civil_day-is day second h = omega (arith, signed_arith)

pub second_of_day-is : (day : ℤ) (second : ℕ) → second < 86400 → second_of_day (seconds_of day second) ≡ second
unfolding second_of_day
second_of_day-is day second h =
    let e = of_positive (int_rem_euclid (seconds_of day second) (pos 86400)) (omega (arith, signed_arith)) in
    omega (arith, signed_arith, e)

-- the seconds of the years 0001 to 9999 are those of their days
pub day-in : (s : ℤ) → neg_ℤ (pos 62135596800) ≤ℤ s → s ≤ℤ pos 253402300799 → IsDay (civil_day s)
unfolding civil_day
day-in s h k = (omega (arith, signed_arith), omega (arith, signed_arith))

pub seconds-in : (day : ℤ) (second : ℕ) → IsDay day → second < 86400 → (neg_ℤ (pos 62135596800) ≤ℤ seconds_of day second) × (seconds_of day second ≤ℤ pos 253402300799)
seconds-in day second h k = (omega (arith, signed_arith, h.0, h.1), omega (arith, signed_arith, h.0, h.1))

-- the parts of a layout

between-field : (between k : ℕ) → IsField (Forget between 2 ∷ clock_places) k (λ (s to : ℕ). (s < 86400) × (to ≡ 0)) (λ (s : ℕ). between ∷ clock_text s)
between-field between k = record {
  writes = λ s to g rest tail.
      let c = clock-field in
      forget-writes between 2 k (clock_places ++ rest) (clock_text s ++ tail) ∙ c.writes s to g rest tail;
  reads = λ rest whole h.
      let c = clock-field in
      let f = forget-reads between 2 k (clock_places ++ rest) whole h in
      let r = c.reads rest f.0 f.2 in
      (r.0, r.1, r.2, r.3, f.1 ∙ ap (λ (xs : List ℕ). between ∷ xs) r.4, r.5);
}

-- Milliseconds where they are written, else none.
abbrev GoesMillis : Bool → ℕ → ℕ → Type 0
GoesMillis here n to = (n ≤ 999) × OnFalse here (n ≡ 0) × (to ≡ 0)

millis-field : (here : Bool) → IsField (millis_places here) 0 (GoesMillis here) (millis_text here)
millis-field true = record {
  writes = λ n to g rest tail.
      let t = three-field in
      byte-writes 46 1 0 (Digit ∷ Digit ∷ Digit ∷ rest) (three n ++ tail) ∙ t.writes n to (omega (arith, g.0), g.2) rest tail;
  reads = λ rest whole h.
      let t = three-field in
      let f = byte-reads 46 1 0 (Digit ∷ Digit ∷ Digit ∷ rest) whole h in
      let r = t.reads rest f.0 f.2 in
      (r.0, r.1, r.2, (omega (arith, r.3.0), tt, r.3.1), f.1 ∙ ap (λ (xs : List ℕ). 46 ∷ xs) r.4, r.5);
}
millis-field false = record {
  writes = λ n to g rest tail. ap (λ (m : ℕ). run rest m tail) (sym g.2);
  reads = λ rest whole h. (0, 0, whole, (omega arith, refl, refl), refl, h);
}

-- An offset where it is written, else zero.
abbrev GoesZone : Zone → ℤ → ℕ → Type 0
GoesZone zone offset to = IsOffset offset × OnFalse (writes_offset zone) (offset ≡ pos 0) × (to ≡ 0)

no-offset : IsOffset (pos 0)
no-offset = (omega (arith, signed_arith), omega (arith, signed_arith))

zone-field : (zone : Zone) → IsField (zone_places zone) 0 (GoesZone zone) (zone_text zone)
zone-field Absent = record {
  writes = λ o to g rest tail. ap (λ (m : ℕ). run rest m tail) (sym g.2);
  reads = λ rest whole h. (pos 0, 0, whole, (no-offset, refl, refl), refl, h);
}
zone-field Zulu = record {
  writes = λ o to g rest tail. byte-writes 90 1 0 rest tail ∙ ap (λ (m : ℕ). run rest m tail) (sym g.2);
  reads = λ rest whole h.
      let f = byte-reads 90 1 0 rest whole h in
      (pos 0, 0, f.0, (no-offset, refl, refl), f.1, f.2);
}
zone-field Compact = record {
  writes = λ o to g rest tail.
      let t = offset-field false in
      byte-writes 32 1 0 (offset_places false ++ rest) (offset_text false o ++ tail) ∙ t.writes o to (g.0, g.2) rest tail;
  reads = λ rest whole h.
      let t = offset-field false in
      let f = byte-reads 32 1 0 (offset_places false ++ rest) whole h in
      let r = t.reads rest f.0 f.2 in
      (r.0, r.1, r.2, (r.3.0, tt, r.3.1), f.1 ∙ ap (λ (xs : List ℕ). 32 ∷ xs) r.4, r.5);
}
zone-field Colon = record {
  writes = λ o to g rest tail. let t = offset-field true in t.writes o to (g.0, g.2) rest tail;
  reads = λ rest whole h.
      let t = offset-field true in
      let r = t.reads rest whole h in
      (r.0, r.1, r.2, (r.3.0, tt, r.3.1), r.4, r.5);
}

opened : (here : Bool) (byte : ℕ) {A : Type 0} (places : List Place) (G : A → ℕ → Type 0) (t : A → List ℕ) → IsField places 0 G t → IsField (places_if here byte 1 ++ places) 0 G (λ (a : A). letter_if here byte ++ t a)
opened here byte places G t is = record {
  writes = λ a to g rest tail.
      ap (λ (ps : List Place). run ps 0 ((letter_if here byte ++ t a) ++ tail)) (append_assoc (places_if here byte 1) places rest)
      ∙ ap (run (places_if here byte 1 ++ (places ++ rest)) 0) (append_assoc (letter_if here byte) (t a) tail)
      ∙ may-write here byte 1 0 (places ++ rest) (t a ++ tail)
      ∙ is.writes a to g rest tail;
  reads = λ rest whole h.
      let f = may-read here byte 1 0 (places ++ rest) whole (ap (λ (ps : List Place). run ps 0 whole) (sym (append_assoc (places_if here byte 1) places rest)) ∙ h) in
      let r = is.reads rest f.0 f.2 in
      (r.0, r.1, r.2, r.3, f.1 ∙ ap (λ (xs : List ℕ). letter_if here byte ++ xs) r.4 ∙ sym (append_assoc (letter_if here byte) (t r.0) r.2), r.5);
}

closed : (here : Bool) (byte : ℕ) {A : Type 0} (places : List Place) (G : A → ℕ → Type 0) (t : A → List ℕ) → IsField places 0 G t → IsField (places ++ places_if here byte 1) 0 G (λ (a : A). t a ++ letter_if here byte)
closed here byte places G t is = record {
  writes = λ a to g rest tail.
      ap (λ (ps : List Place). run ps 0 ((t a ++ letter_if here byte) ++ tail)) (append_assoc places (places_if here byte 1) rest)
      ∙ ap (run (places ++ (places_if here byte 1 ++ rest)) 0) (append_assoc (t a) (letter_if here byte) tail)
      ∙ is.writes a to g (places_if here byte 1 ++ rest) (letter_if here byte ++ tail)
      ∙ may-write here byte 1 to rest tail;
  reads = λ rest whole h.
      let r = is.reads (places_if here byte 1 ++ rest) whole (ap (λ (ps : List Place). run ps 0 whole) (sym (append_assoc places (places_if here byte 1) rest)) ∙ h) in
      let f = may-read here byte 1 r.1 rest r.2 r.5 in
      (r.0, r.1, f.0, r.3, r.4 ∙ ap (λ (xs : List ℕ). t r.0 ++ xs) f.1 ∙ sym (append_assoc (t r.0) (letter_if here byte) f.0), f.2);
}

abbrev GoesDate : DateForm → CivilDate → ℕ → Type 0
GoesDate form date to = IsDate date × (to ≡ date_exit form date)

abbrev GoesClock : ℕ → ℕ → Type 0
GoesClock s to = (s < 86400) × (to ≡ 0)

abbrev Parts : Type 0
Parts = ((CivilDate × ℕ) × ℕ) × ℤ

abbrev GoesTimed : DateForm → (CivilDate × ℕ) → ℕ → Type 0
GoesTimed form p to = (k : ℕ) × GoesDate form p.0 k × GoesClock p.1 to

abbrev GoesFine : Layout → ((CivilDate × ℕ) × ℕ) → ℕ → Type 0
GoesFine layout p to = (k : ℕ) × GoesTimed layout.date p.0 k × GoesMillis layout.millis p.1 to

abbrev GoesParts : Layout → Parts → ℕ → Type 0
GoesParts layout p to = (k : ℕ) × GoesFine layout p.0 k × GoesZone layout.zone p.1 to

abbrev parts_text : Layout → Parts → List ℕ
parts_text layout p =
    letter_if layout.bracketed 91 ++ date_text layout.date p.0.0.0 ++ layout.between ∷ clock_text p.0.0.1
    ++ millis_text layout.millis p.0.1 ++ zone_text layout.zone p.1 ++ letter_if layout.bracketed 93

from_zero : {A : Type 0} (places : List Place) (k : ℕ) (G : A → ℕ → Type 0) (t : A → List ℕ) → k ≡ 0 → IsField places 0 G t → IsField places k G t
from_zero places k G t e is = subst (λ (x : ℕ). IsField places x G t) (sym e) is

parts-field : (layout : Layout) → IsField (layout_places layout) 0 (GoesParts layout) (parts_text layout)
parts-field layout =
    let open_places : List Place = places_if layout.bracketed 91 1 ++ date_places layout.date in
    let timed_places : List Place = open_places ++ Forget layout.between 2 ∷ clock_places in
    let fine_places : List Place = timed_places ++ millis_places layout.millis in
    let date_of : CivilDate → List ℕ = λ date. letter_if layout.bracketed 91 ++ date_text layout.date date in
    let timed_of : (CivilDate × ℕ) → List ℕ = λ p. date_of p.0 ++ layout.between ∷ clock_text p.1 in
    let fine_of : ((CivilDate × ℕ) × ℕ) → List ℕ = λ p. timed_of p.0 ++ millis_text layout.millis p.1 in
    closed layout.bracketed 93 (fine_places ++ zone_places layout.zone) (GoesParts layout) (λ (p : Parts). fine_of p.0 ++ zone_text layout.zone p.1)
    (then fine_places (zone_places layout.zone) 0 (GoesFine layout) (GoesZone layout.zone) fine_of (zone_text layout.zone)
    (then timed_places (millis_places layout.millis) 0 (GoesTimed layout.date) (GoesMillis layout.millis) timed_of (millis_text layout.millis)
    (then open_places (Forget layout.between 2 ∷ clock_places) 0 (GoesDate layout.date) GoesClock date_of (λ (s : ℕ). layout.between ∷ clock_text s)
    (opened layout.bracketed 91 (date_places layout.date) (GoesDate layout.date) (date_text layout.date) (date-field layout.date))
    (λ k date g. between-field layout.between k))
    (λ k p g. from_zero (millis_places layout.millis) k (GoesMillis layout.millis) (millis_text layout.millis) g.2.1 (millis-field layout.millis)))
    (λ k p g. from_zero (zone_places layout.zone) k (GoesZone layout.zone) (zone_text layout.zone) g.2.2 (zone-field layout.zone)))

-- moments

abbrev GoesMoment : Layout → Moment → ℕ → Type 0
GoesMoment layout m to = IsShown layout m × (to ≡ 0)

parts_of : (layout : Layout) (m : Moment) (to : ℕ) → GoesMoment layout m to → (p : Parts) × GoesParts layout p to × (parts_text layout p ≡ layout_text layout m)
parts_of layout m to g =
    let is = g.0.0 in
    let d = civil_date-is (civil_day m.seconds) (day-in m.seconds is.0 is.1) in (
      (((civil_date (civil_day m.seconds), second_of_day m.seconds), m.millis), m.offset),
      (0, (0, (date_exit layout.date (civil_date (civil_day m.seconds)), (d.0, refl), (second_of_day-less m.seconds, refl)), (is.2, g.0.1, refl)), ((is.3, is.4), g.0.2, g.1)),
      refl,
    )

moment_of : (layout : Layout) (p : Parts) (to : ℕ) → GoesParts layout p to → (m : Moment) × GoesMoment layout m to × (parts_text layout p ≡ layout_text layout m)
moment_of layout p to g =
    let date = p.0.0.0 in
    let second = p.0.0.1 in
    let d = day_number-is date g.1.1.1.0 in
    let less = g.1.1.2.0 in
    let m : Moment = record { seconds = seconds_of (day_number date) second; millis = p.0.1; offset = p.1 } in
    let day : civil_day (seconds_of (day_number p.0.0.0) p.0.0.1) ≡ day_number p.0.0.0 = civil_day-is (day_number date) second less in
    let s : second_of_day (seconds_of (day_number p.0.0.0) p.0.0.1) ≡ p.0.0.1 = second_of_day-is (day_number date) second less in
    let r = seconds-in (day_number date) second d.0 less in (
      m,
      (((r.0, r.1, g.1.2.0, g.2.0.0, g.2.0.1), g.1.2.1, g.2.1), g.2.2),
      ap (λ (x : CivilDate). parts_text layout (((x, p.0.0.1), p.0.1), p.1)) (sym (ap civil_date day ∙ d.1))
          ∙ ap (λ (x : ℕ). parts_text layout (((civil_date (civil_day (seconds_of (day_number p.0.0.0) p.0.0.1)), x), p.0.1), p.1)) (sym s),
    )

pub layout-field : (layout : Layout) → IsField (layout_places layout) 0 (GoesMoment layout) (layout_text layout)
layout-field layout =
    relabelled (layout_places layout) 0 (GoesParts layout) (GoesMoment layout) (parts_text layout) (layout_text layout)
    (parts-field layout) (parts_of layout) (moment_of layout)

-- reading back

abbrev joined : List ℕ → List ℕ → List ℕ → List ℕ → List ℕ → List ℕ → List ℕ
joined a b c d e f = a ++ b ++ c ++ d ++ e ++ f

past-one : (a b c d e f : List ℕ) → joined a b c d e f ≡ a ++ (b ++ (c ++ (d ++ (e ++ f))))
past-one a b c d e f = simp append_assoc

past-two : (a b c d e f : List ℕ) (x : ℕ) → joined a b (x ∷ c) d e f ≡ (a ++ b ++ x ∷ []) ++ (c ++ (d ++ (e ++ f)))
past-two a b c d e f x = simp append_assoc

past-three : (a b c d e f : List ℕ) → joined a b c d e f ≡ (a ++ b ++ c) ++ (d ++ (e ++ f))
past-three a b c d e f = simp append_assoc

past-four : (a b c d e f : List ℕ) → joined a b c d e f ≡ (a ++ b ++ c ++ d) ++ (e ++ f)
past-four a b c d e f = simp append_assoc

open-length : (here : Bool) (byte : ℕ) → length (letter_if here byte) ≡ cond here 1 0
open-length true byte = refl
open-length false byte = refl

date-length : (form : DateForm) (date : CivilDate) → length (date_text form date) ≡ date_width form
date-length Iso date = refl
date-length Named date = refl

millis-length : (here : Bool) (n : ℕ) → length (millis_text here n) ≡ cond here 4 0
millis-length true n = refl
millis-length false n = refl

abbrev a_moment_of : ℤ → ℕ → ℤ → Moment
a_moment_of s m o = record { seconds = s; millis = m; offset = o }

same-moment : (s t : ℤ) (m n : ℕ) (o p : ℤ) → s ≡ t → m ≡ n → o ≡ p → a_moment_of s m o ≡ a_moment_of t n p
same-moment s t m n o p e f g =
    ap (λ (x : ℤ). a_moment_of x m o) e ∙ ap (λ (x : ℕ). a_moment_of t x o) f ∙ ap (λ (x : ℤ). a_moment_of t n x) g

module _ (layout : Layout) (m : Moment) (is : IsShown layout m) where
  abbrev a : List ℕ
  a = letter_if layout.bracketed 91

  abbrev b : List ℕ
  b = date_text layout.date (civil_date (civil_day m.seconds))

  abbrev c : List ℕ
  c = clock_text (second_of_day m.seconds)

  abbrev d : List ℕ
  d = millis_text layout.millis m.millis

  abbrev e : List ℕ
  e = zone_text layout.zone m.offset

  abbrev f : List ℕ
  f = letter_if layout.bracketed 93

  ab-length : length (a ++ b ++ layout.between ∷ []) ≡ clock_place layout
  ab-length = omega (arith, length-append (a ++ b) (layout.between ∷ []), length-append a b, open-length layout.bracketed 91, date-length layout.date (civil_date (civil_day m.seconds)))

  abc-length : length (a ++ b ++ layout.between ∷ c) ≡ millis_place layout
  abc-length = omega (arith, length-append (a ++ b) (layout.between ∷ c), length-append a b, open-length layout.bracketed 91, date-length layout.date (civil_date (civil_day m.seconds)))

  abcd-length : length (a ++ b ++ layout.between ∷ c ++ d) ≡ zone_place layout
  abcd-length = omega (arith, length-append (a ++ b ++ layout.between ∷ c) d, abc-length, millis-length layout.millis m.millis)

  date-is : date_at layout.date (layout_text layout m) (date_place layout) ≡ civil_date (civil_day m.seconds)
  date-is =
      let rest : List ℕ = (layout.between ∷ c) ++ (d ++ (e ++ f)) in
      ap (λ (text : List ℕ). date_at layout.date text (date_place layout)) (past-one a b (layout.between ∷ c) d e f)
      ∙ date-past layout.date a (b ++ rest) (date_place layout) (open-length layout.bracketed 91)
      ∙ date-back layout.date (civil_date (civil_day m.seconds)) rest (civil_date-is (civil_day m.seconds) (day-in m.seconds is.0.0 is.0.1)).0

  second-is : second_at (layout_text layout m) (clock_place layout) ≡ second_of_day m.seconds
  second-is =
      ap (λ (text : List ℕ). second_at text (clock_place layout)) (past-two a b c d e f layout.between)
      ∙ second-past (a ++ b ++ layout.between ∷ []) (c ++ (d ++ (e ++ f))) (clock_place layout) ab-length
      ∙ second-back (second_of_day m.seconds) (d ++ (e ++ f))

  millis-is : millis_at layout.millis (layout_text layout m) (millis_place layout) ≡ m.millis
  millis-is =
      ap (λ (text : List ℕ). millis_at layout.millis text (millis_place layout)) (past-three a b (layout.between ∷ c) d e f)
      ∙ millis-past layout.millis (a ++ b ++ layout.between ∷ c) (d ++ (e ++ f)) (millis_place layout) abc-length
      ∙ millis-back layout.millis m.millis (e ++ f) is.1

  offset-is : offset_at layout.zone (layout_text layout m) (zone_place layout) ≡ m.offset
  offset-is =
      ap (λ (text : List ℕ). offset_at layout.zone text (zone_place layout)) (past-four a b (layout.between ∷ c) d e f)
      ∙ offset-past layout.zone (a ++ b ++ layout.between ∷ c ++ d) (e ++ f) (zone_place layout) abcd-length
      ∙ offset-back layout.zone m.offset f (is.0.3, is.0.4) is.2

  -- the moment is read back from its text
  pub moment-back : moment_at layout (layout_text layout m) ≡ m
  moment-back =
      let day = (civil_date-is (civil_day m.seconds) (day-in m.seconds is.0.0 is.0.1)).1 in
      same-moment _ m.seconds _ m.millis _ m.offset
      (ap (λ (x : CivilDate). seconds_of (day_number x) (second_at (layout_text layout m) (clock_place layout))) date-is
      ∙ ap (λ (x : ℤ). seconds_of x (second_at (layout_text layout m) (clock_place layout))) day
      ∙ ap (seconds_of (civil_day m.seconds)) second-is
      ∙ seconds-parts m.seconds)
      millis-is offset-is

pub moments-distinct : (layout : Layout) (m n : Moment) → IsShown layout m → IsShown layout n → layout_text layout m ≡ layout_text layout n → m ≡ n
moments-distinct layout m n h g e = sym (moment-back layout m h) ∙ ap (moment_at layout) e ∙ moment-back layout n g
