use Rattle.std.proofs.Common.{◌∙◌, ap, to_z, of_z, rules}
use Rattle.std.specs.Prelude.{FitsSigned}
use Rattle.std.specs.Int.{w32}
use Rattle.std.proofs.lemmas.Int.{to_z-of_z}
use Rattle.lf_layout.specs.declared.calendar.CivilDate.{CivilDate}
use Rattle.lf_layout.specs.Calendar.{day_number}
use Rattle.lf_layout.proofs.ReadingSteps.{day-refused, day-accepted}
use Rattle.lf_layout.proofs.readings.read_day.Goals as goal

pub returns-then-not-accepts : goal.returns-then-not-accepts
returns-then-not-accepts c =
    day-refused c.args.places.now c.args.text.now c.requires.places c.if-not-accepts.ensures

pub returns : goal.returns
returns c =
    let fits : FitsSigned w32 c.day_number.result = search rules in
    day-accepted c.args.places.now c.args.text.now c.requires.places c.if-not-accepts.ensures (to_z w32 (of_z w32 c.day_number.result))
    (to_z-of_z w32 c.day_number.result fits ∙ c.day_number.ensures ∙ ap (λ (date : CivilDate). day_number date) c.date_at.ensures.exact)
