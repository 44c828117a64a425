use Rattle.std.proofs.Common.{◌≡◌, ◌∙◌, subst, sym, arith, to_z, of_z}
use Rattle.std.specs.Prelude.{pos}
use Rattle.std.specs.Int.{w16}
use Rattle.jiff_core.proofs.SignedLemmas.{signed_arith, back_small}
use Rattle.jiff_core.specs.Calendar.{days_from_civil}
use Rattle.lf_layout.proofs.JiffCalendar.{jiff-date, year-small, year-fits}
use Rattle.lf_layout.proofs.Casts.{cast-back}
use Rattle.lf_layout.specs.declared.calendar.CivilDate.{CivilDate}
use Rattle.lf_layout.specs.Calendar.{IsDate}
use Rattle.lf_layout.specs.CalendarLaws.{civil_date-is}
use Rattle.lf_layout.proofs.calendar.date_of.Goals as goal

pub overflow_cast-result : goal.overflow_cast-result
overflow_cast-result c =
    let date = c.in-Ok.date in
    let v : days_from_civil c.in-Ok.date.year c.in-Ok.date.month c.in-Ok.date.day ≡ c.args.day = c.in-Ok.ensures.value ∙ cast-back c.args.day c.requires in
    let j = jiff-date date.year date.month date.day c.args.day (date.year_in, date.month_in, date.day_in) c.requires v in
    let b : to_z w16 (of_z w16 c.in-Ok.date.year) ≡ pos j.0 = back_small w16 date.year (year-small date.year date.year_in.0 date.year_in.1) ∙ j.1 in
    year-fits (to_z w16 (of_z w16 c.in-Ok.date.year)) j.0 b (omega (arith, signed_arith, j.1, date.year_in.1))

pub returns-in-Ok-clause-exact : goal.returns-in-Ok-clause-exact
returns-in-Ok-clause-exact c =
    let date = c.in-Ok.date in
    let v : days_from_civil c.in-Ok.date.year c.in-Ok.date.month c.in-Ok.date.day ≡ c.args.day = c.in-Ok.ensures.value ∙ cast-back c.args.day c.requires in
    let j = jiff-date date.year date.month date.day c.args.day (date.year_in, date.month_in, date.day_in) c.requires v in
    let b : to_z w16 (of_z w16 c.in-Ok.date.year) ≡ pos j.0 = back_small w16 date.year (year-small date.year date.year_in.0 date.year_in.1) ∙ j.1 in
    rw b (sym j.2)

pub returns-in-Ok-clause-valid : goal.returns-in-Ok-clause-valid
returns-in-Ok-clause-valid c =
    subst (λ (date : CivilDate). IsDate date) (sym (returns-in-Ok-clause-exact c)) (civil_date-is c.args.day c.requires).0
