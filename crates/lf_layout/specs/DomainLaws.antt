-- The layouts are domains.
use Rattle.std.proofs.Common.{◌≡◌, ℕ, ◌<◌, List, [], ◌∷◌, ◌++◌, true, false, refl, sym, ap, subst, ◌∙◌, arith, append-nil}
use Rattle.std.specs.Prelude.{ℤ}
use Rattle.lf_core.specs.Domain.{accepts, IsDomain, IsPlainOf, IsPlainOfNone}
use Rattle.lf_core.specs.declared.values.Moment.{Moment}
use Rattle.lf_core.specs.declared.values.Value.{Value}
use Rattle.lf_core.specs.declared.values.Value.TheVariants.{Moment as a_moment, Day as a_day, Clock as a_clock}
use Rattle.lf_layout.specs.declared.calendar.CivilDate.{CivilDate}
use Rattle.lf_layout.specs.Calendar.{IsDate, IsDay, day_number, civil_date}
use Rattle.lf_layout.specs.CalendarLaws.{civil_date-is, day_number-is}
use Rattle.lf_layout.specs.Texts.{clock_text, iso_date_text}
use Rattle.lf_layout.specs.Layouts.{layout_text, IsShown, HoldsMoment, moment_text, HoldsDay, day_text, HoldsClock, time_text}
use Rattle.lf_layout.specs.Places.{iso_date_places, clock_places, layout_places, places_machine, point_count, next_point, is_last, IsPlaced}
use Rattle.lf_layout.specs.PlaceLaws.{run, accepts-run, points-stay}
use Rattle.lf_layout.specs.FieldLaws.{IsField, relabelled, clock-field}
use Rattle.lf_layout.specs.DateLaws.{iso-field}
use Rattle.lf_layout.specs.LayoutLaws.{layout-field, moment-back, moments-distinct}
use Rattle.lf_layout.specs.Readings.{date_at, second_at, moment_at}
use Rattle.lf_layout.specs.ReadingLaws.{date-back, second-back}
use Rattle.lf_layout.specs.declared.layout.DateForm.TheVariants.{Iso}
use Rattle.lf_layout.specs.declared.layout.Layout.{Layout}
use Rattle.lf_layout.specs.declared.place.Place.{Place}

abbrev pub Accepts : List Place → List ℕ → Type 0
Accepts places text = accepts (next_point places) (is_last places) 0 text ≡ true

pub points-some : (places : List Place) → 0 < point_count places
points-some [] = omega arith
points-some (place ∷ places) = omega (arith, points-some places)

module _ {A : Type 0} (P : A → Type 0) (text : A → List ℕ) (places : List Place) (placed : IsPlaced places) (is : IsField places 0 (λ (a : A) (to : ℕ). P a × (to ≡ 0)) text) where
  same : (whole : List ℕ) → accepts (next_point places) (is_last places) 0 whole ≡ run places 0 whole
  same whole = accepts-run places 1 0 whole placed.bytes placed.chained (omega arith)

  whole_places : (whole : List ℕ) → run (places ++ []) 0 whole ≡ run places 0 whole
  whole_places whole = ap (λ (ps : List Place). run ps 0 whole) (append-nil places)

  pub field-sound : (whole : List ℕ) → Accepts places whole → (a : A) × P a × (text a ≡ whole)
  field-sound whole h =
      let r = is.reads [] whole (whole_places whole ∙ sym (same whole) ∙ h) in
      (r.0, r.3.0, sym (append-nil (text r.0)) ∙ ended r.1 r.2 (text r.0) r.5 ∙ sym r.4)
    where
      ended : (to : ℕ) (tail front : List ℕ) → run [] to tail ≡ true → front ++ [] ≡ front ++ tail
      ended to [] front e = refl
      ended to (c ∷ cs) front e = cc

  pub field-complete : (a : A) → P a → Accepts places (text a)
  field-complete a h =
      same (text a) ∙ sym (whole_places (text a)) ∙ ap (run (places ++ []) 0) (sym (append-nil (text a))) ∙ is.writes a 0 (h, refl) [] []

-- days and times of day

abbrev GoesDay : ℤ → ℕ → Type 0
GoesDay day to = IsDay day × (to ≡ 0)

abbrev one_day_text : ℤ → List ℕ
one_day_text day = iso_date_text (civil_date day)

day-field : IsField iso_date_places 0 GoesDay one_day_text
day-field =
    relabelled iso_date_places 0 (λ (date : CivilDate) (to : ℕ). IsDate date × (to ≡ 0)) GoesDay iso_date_text one_day_text iso-field
    (λ day to g. (civil_date day, ((civil_date-is day g.0).0, g.1), refl))
    (λ date to g. let d = day_number-is date g.0 in (day_number date, (d.0, g.1), ap iso_date_text (sym d.1)))

pub day-back : (day : ℤ) → IsDay day → day_number (date_at Iso (one_day_text day) 0) ≡ day
day-back day h =
    let d = civil_date-is day h in
    ap (λ (text : List ℕ). day_number (date_at Iso text 0)) (sym (append-nil (one_day_text day))) ∙ ap day_number (date-back Iso (civil_date day) [] d.0) ∙ d.1

pub second-read : (second : ℕ) → second_at (clock_text second) 0 ≡ second
second-read second = second-back second []

pub day_placed : IsPlaced iso_date_places
day_placed = record { bytes = refl; chained = refl; few = omega arith }

pub clock_placed : IsPlaced clock_places
clock_placed = record { bytes = refl; chained = refl; few = omega arith }

day-complete : (v : Value) → HoldsDay v → Accepts iso_date_places (day_text v)
day-complete (a_day day) h = field-complete IsDay one_day_text iso_date_places day_placed day-field day h
day-complete v h = absurd h

day-distinct : (v w : Value) → HoldsDay v → HoldsDay w → day_text v ≡ day_text w → v ≡ w
day-distinct (a_day d) (a_day e) h g t = ap a_day (sym (day-back d h) ∙ ap (λ (text : List ℕ). day_number (date_at Iso text 0)) t ∙ day-back e g)
day-distinct (a_day d) w h g t = absurd g
day-distinct v w h g t = absurd h

pub day_laws : IsDomain HoldsDay day_text (places_machine iso_date_places) 300
day_laws = record {
  sound = λ text a. let f = field-sound IsDay one_day_text iso_date_places day_placed day-field text a in (a_day f.0, f.1, f.2);
  complete = day-complete;
  distinct = day-distinct;
  begins = points-some iso_date_places;
  stays = λ point letter after h e. points-stay iso_date_places 1 point letter after refl refl h e;
  small = omega arith;
}

clock-complete : (v : Value) → HoldsClock v → Accepts clock_places (time_text v)
clock-complete (a_clock s) h = field-complete (λ (s : ℕ). s < 86400) clock_text clock_places clock_placed clock-field s h
clock-complete v h = absurd h

clock-distinct : (v w : Value) → HoldsClock v → HoldsClock w → time_text v ≡ time_text w → v ≡ w
clock-distinct (a_clock s) (a_clock t) h g e = ap a_clock (sym (second-read s) ∙ ap (λ (text : List ℕ). second_at text 0) e ∙ second-read t)
clock-distinct (a_clock s) w h g e = absurd g
clock-distinct v w h g e = absurd h

pub clock_laws : IsDomain HoldsClock time_text (places_machine clock_places) 300
clock_laws = record {
  sound = λ text a. let f = field-sound (λ (s : ℕ). s < 86400) clock_text clock_places clock_placed clock-field text a in (a_clock f.0, f.1, f.2);
  complete = clock-complete;
  distinct = clock-distinct;
  begins = points-some clock_places;
  stays = λ point letter after h e. points-stay clock_places 1 point letter after refl refl h e;
  small = omega arith;
}

-- moments

module _ (layout : Layout) (placed : IsPlaced (layout_places layout)) where
  moment-complete : (v : Value) → HoldsMoment layout v → Accepts (layout_places layout) (moment_text layout v)
  moment-complete (a_moment m) h = field-complete (IsShown layout) (layout_text layout) (layout_places layout) placed (layout-field layout) m h
  moment-complete v h = absurd h

  moment-distinct : (v w : Value) → HoldsMoment layout v → HoldsMoment layout w → moment_text layout v ≡ moment_text layout w → v ≡ w
  moment-distinct (a_moment m) (a_moment n) h g e = ap a_moment (moments-distinct layout m n h g e)
  moment-distinct (a_moment m) w h g e = absurd g
  moment-distinct v w h g e = absurd h

  pub moment_laws : IsDomain (HoldsMoment layout) (moment_text layout) (places_machine (layout_places layout)) 300
  moment_laws = record {
    sound = λ text a. let f = field-sound (IsShown layout) (layout_text layout) (layout_places layout) placed (layout-field layout) text a in (a_moment f.0, f.1, f.2);
    complete = moment-complete;
    distinct = moment-distinct;
    begins = points-some (layout_places layout);
    stays = λ point letter after h e. points-stay (layout_places layout) 1 point letter after placed.bytes placed.chained h e;
    small = placed.few;
  }

-- reading a text that is accepted, and one that is not

read-moment : (layout : Layout) (text : List ℕ) (m : Moment) → IsShown layout m → layout_text layout m ≡ text → IsPlainOf (HoldsMoment layout) (moment_text layout) text (a_moment (moment_at layout text))
read-moment layout text m h e =
    let back : moment_at layout text ≡ m = ap (moment_at layout) (sym e) ∙ moment-back layout m h in
    (subst (IsShown layout) (sym back) h, ap (layout_text layout) back ∙ e)

pub accepted-moment : (layout : Layout) → IsPlaced (layout_places layout) → (text : List ℕ) → Accepts (layout_places layout) text → IsPlainOf (HoldsMoment layout) (moment_text layout) text (a_moment (moment_at layout text))
accepted-moment layout placed text a =
    let f = field-sound (IsShown layout) (layout_text layout) (layout_places layout) placed (layout-field layout) text a in
    read-moment layout text f.0 f.1 f.2

pub refused : (holds : Value → Type 0) (plain : Value → List ℕ) (places : List Place) → IsDomain holds plain (places_machine places) 300 → (text : List ℕ) → accepts (next_point places) (is_last places) 0 text ≡ false → IsPlainOfNone holds plain text
refused holds plain places is text f = λ v h e.
    let c = is.complete v h in
    let t : accepts (next_point places) (is_last places) 0 text ≡ true = ap (accepts (next_point places) (is_last places) 0) (sym e) ∙ c in
    absurd (cc)

read-day : (text : List ℕ) (day : ℤ) → IsDay day → one_day_text day ≡ text → IsPlainOf HoldsDay day_text text (a_day (day_number (date_at Iso text 0)))
read-day text day h e =
    let back : day_number (date_at Iso text 0) ≡ day = ap (λ (t : List ℕ). day_number (date_at Iso t 0)) (sym e) ∙ day-back day h in
    (subst IsDay (sym back) h, ap one_day_text back ∙ e)

pub accepted-day : (text : List ℕ) → Accepts iso_date_places text → IsPlainOf HoldsDay day_text text (a_day (day_number (date_at Iso text 0)))
accepted-day text a =
    let f = field-sound IsDay one_day_text iso_date_places day_placed day-field text a in
    read-day text f.0 f.1 f.2

read-clock : (text : List ℕ) (s : ℕ) → s < 86400 → clock_text s ≡ text → IsPlainOf HoldsClock time_text text (a_clock (second_at text 0))
read-clock text s h e =
    let back : second_at text 0 ≡ s = ap (λ (t : List ℕ). second_at t 0) (sym e) ∙ second-read s in
    (subst (λ (x : ℕ). x < 86400) (sym back) h, ap clock_text back ∙ e)

pub accepted-clock : (text : List ℕ) → Accepts clock_places text → IsPlainOf HoldsClock time_text text (a_clock (second_at text 0))
accepted-clock text a =
    let f = field-sound (λ (s : ℕ). s < 86400) clock_text clock_places clock_placed clock-field text a in
    read-clock text f.0 f.1 f.2
