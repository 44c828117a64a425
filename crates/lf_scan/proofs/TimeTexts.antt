-- Times that are read.
use Rattle.std.proofs.Common.{◌≡◌, ◌<◌, List, ℕ, ◌++◌, refl, sym, ap, ◌∙◌, arith}
use Rattle.lf_core.specs.declared.values.Moment.{Moment as OneMoment}
use Rattle.lf_core.specs.declared.values.Value.TheVariants.{Moment, Day, Clock}
use Rattle.lf_escape.specs.declared.coding.Coding.TheVariants as coding
use Rattle.lf_format.specs.declared.kind.Kind.TheVariants as kind
use Rattle.lf_json.specs.Text.{bare_string}
use Rattle.lf_layout.specs.Calendar.{civil_date, day_number}
use Rattle.lf_layout.specs.CalendarLaws.{day_number-is}
use Rattle.lf_layout.specs.Layouts.{IsShown, layout_text}
use Rattle.lf_layout.specs.Texts.{clock_text, iso_date_text}
use Rattle.lf_stamp.specs.Fields.{KeepsDate, KeepsTime, date_of, second_of}
use Rattle.lf_stamp.specs.declared.date.Date.{Date}
use Rattle.lf_stamp.specs.declared.time_of_day.TimeOfDay.{TimeOfDay}
use Rattle.lf_time.specs.TimeLayouts.{json_layout}
use Rattle.lf_time.specs.declared.w3c_clock.W3cClock.{W3cClock}
use Rattle.lf_time.specs.declared.w3c_date.W3cDate.{W3cDate}
use Rattle.lf_scan.specs.Reads.{ReadsKind}
use Rattle.lf_scan.specs.Times.{layout_of, moment_kind}
use Rattle.lf_scan.specs.declared.time_step.MomentStep.{MomentStep}
use Rattle.lf_scan.specs.declared.time_step.MomentStep.TheVariants.{Clf, Iso, IsoMillis, Ha}
use Rattle.lf_scan.proofs.ExactTexts.{reads-plain}

-- A moment is read.
pub reads-moment : (t : MomentStep) (m : OneMoment) (text left old new : List ℕ) → IsShown (layout_of t) m → text ≡ layout_text (layout_of t) m ++ left → new ≡ old ++ bare_string (layout_text json_layout m)
    → ReadsKind (moment_kind t) coding.Raw text left old new
reads-moment (Clf d) m text left old new shown parts added = reads-plain (kind.Clf d) coding.Raw (Moment m) text (layout_text (layout_of (Clf d)) m) left old new refl shown refl parts added
reads-moment (Iso d) m text left old new shown parts added = reads-plain (kind.Iso d) coding.Raw (Moment m) text (layout_text (layout_of (Iso d)) m) left old new refl shown refl parts added
reads-moment (IsoMillis d) m text left old new shown parts added = reads-plain (kind.IsoMillis d) coding.Raw (Moment m) text (layout_text (layout_of (IsoMillis d)) m) left old new refl shown refl parts added
reads-moment (Ha d) m text left old new shown parts added = reads-plain (kind.Ha d) coding.Raw (Moment m) text (layout_text (layout_of (Ha d)) m) left old new refl shown refl parts added

-- A day is read.
pub reads-day : (domain : W3cDate) (d : Date) (text left old new : List ℕ) → KeepsDate d → text ≡ iso_date_text (date_of d) ++ left → new ≡ old ++ bare_string (iso_date_text (date_of d))
    → ReadsKind (kind.Date domain) coding.Raw text left old new
reads-day domain d text left old new keeps parts added =
    let is = day_number-is (date_of d) keeps.is_date in
    let same : iso_date_text (civil_date (day_number (date_of d))) ≡ iso_date_text (date_of d) = ap iso_date_text is.1 in
    reads-plain (kind.Date domain) coding.Raw (Day (day_number (date_of d))) text (iso_date_text (date_of d)) left old new refl is.0 same parts (added ∙ ap (λ (t : List ℕ). old ++ bare_string t) (sym same))

-- A time of the day is read.
pub reads-clock : (domain : W3cClock) (t : TimeOfDay) (text left old new : List ℕ) → KeepsTime t → text ≡ clock_text (second_of t) ++ left → new ≡ old ++ bare_string (clock_text (second_of t))
    → ReadsKind (kind.Clock domain) coding.Raw text left old new
reads-clock domain t text left old new keeps parts added =
    let less : second_of t < 86400 = omega (arith, keeps.hour, keeps.minute, keeps.second) in
    reads-plain (kind.Clock domain) coding.Raw (Clock (second_of t)) text (clock_text (second_of t)) left old new refl less refl parts added
