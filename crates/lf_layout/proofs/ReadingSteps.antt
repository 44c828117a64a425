-- What is read of a text that the places accept, and of one that they don't.
use Rattle.std.proofs.Common.{◌≡◌, ℕ, List, Bool, true, false, sym, ap, subst, ◌∙◌}
use Rattle.std.specs.Prelude.{ℤ}
use Rattle.lf_core.specs.Domain.{accepts, IsPlainOf, IsPlainOfNone}
use Rattle.lf_core.specs.declared.values.Moment.{Moment}
use Rattle.lf_core.specs.declared.values.Value.TheVariants.{Moment as a_moment, Day as a_day, Clock as a_clock}
use Rattle.lf_layout.specs.Layouts.{HoldsMoment, moment_text, HoldsDay, day_text, HoldsClock, time_text}
use Rattle.lf_layout.specs.Places.{IsPlaced, iso_date_places, clock_places, layout_places, next_point, is_last}
use Rattle.lf_layout.specs.Readings.{date_at, second_at, moment_at}
use Rattle.lf_layout.specs.DomainLaws.{moment_laws, day_laws, accepted-moment, accepted-day, accepted-clock, refused}
use Rattle.lf_layout.specs.Calendar.{day_number}
use Rattle.lf_layout.specs.declared.layout.DateForm.TheVariants.{Iso}
use Rattle.lf_layout.specs.declared.layout.Layout.{Layout}
use Rattle.lf_layout.specs.declared.place.Place.{Place}

module _ (layout : Layout) (places : List Place) (placed : IsPlaced places) (same : places ≡ layout_places layout) (text : List ℕ) where
  abbrev Answers : Bool → Type 0
  Answers answer = answer ≡ accepts (next_point places) (is_last places) 0 text

  abbrev is_accepted : List Place → Bool
  is_accepted ps = accepts (next_point ps) (is_last ps) 0 text

  here : IsPlaced (layout_places layout)
  here = subst IsPlaced same placed

  pub moment-refused : false ≡ accepts (next_point places) (is_last places) 0 text → IsPlainOfNone (HoldsMoment layout) (moment_text layout) text
  moment-refused e =
      refused (HoldsMoment layout) (moment_text layout) (layout_places layout) (moment_laws layout here) text (sym (e ∙ ap is_accepted same))

  pub moment-accepted : true ≡ accepts (next_point places) (is_last places) 0 text → (m : Moment) → m ≡ moment_at layout text → IsPlainOf (HoldsMoment layout) (moment_text layout) text (a_moment m)
  moment-accepted e m f =
      subst (λ (n : Moment). IsPlainOf (HoldsMoment layout) (moment_text layout) text (a_moment n)) (sym f)
      (accepted-moment layout here text (sym (e ∙ ap is_accepted same)))

abbrev accepts_by : List ℕ → List Place → Bool
accepts_by text ps = accepts (next_point ps) (is_last ps) 0 text

pub day-refused : (places : List Place) (text : List ℕ) → places ≡ iso_date_places → false ≡ accepts (next_point places) (is_last places) 0 text → IsPlainOfNone HoldsDay day_text text
day-refused places text same e =
    refused HoldsDay day_text iso_date_places day_laws text (sym (e ∙ ap (accepts_by text) same))

pub day-accepted : (places : List Place) (text : List ℕ) → places ≡ iso_date_places → true ≡ accepts (next_point places) (is_last places) 0 text → (day : ℤ) → day ≡ day_number (date_at Iso text 0) → IsPlainOf HoldsDay day_text text (a_day day)
day-accepted places text same e day f =
    subst (λ (d : ℤ). IsPlainOf HoldsDay day_text text (a_day d)) (sym f) (accepted-day text (sym (e ∙ ap (accepts_by text) same)))

pub clock-accepted : (places : List Place) (text : List ℕ) → places ≡ clock_places → true ≡ accepts (next_point places) (is_last places) 0 text → (second : ℕ) → second ≡ second_at text 0 → IsPlainOf HoldsClock time_text text (a_clock second)
clock-accepted places text same e second f =
    subst (λ (s : ℕ). IsPlainOf HoldsClock time_text text (a_clock s)) (sym f) (accepted-clock text (sym (e ∙ ap (accepts_by text) same)))
