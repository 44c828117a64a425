use Rattle.std.proofs.Common.{subst, sym}
use Rattle.std.specs.Prelude.{ℤ}
use Rattle.lf_layout.specs.Calendar.{IsDay}
use Rattle.lf_layout.specs.LayoutLaws.{day-in}
use Rattle.lf_layout.proofs.Casts.{civil_day-cast}
use Rattle.lf_layout.proofs.writing.civil_day.Goals as goal

pub returns-clause-exact : goal.returns-clause-exact
returns-clause-exact c = civil_day-cast c.args.moment.now c.div_euclid.result c.requires c.div_euclid.ensures

pub returns-clause-in_range : goal.returns-clause-in_range
returns-clause-in_range c =
    subst (λ (day : ℤ). IsDay day) (sym (returns-clause-exact c)) (day-in c.args.moment.now.seconds c.requires.0 c.requires.1)
