use Rattle.std.proofs.Common.{arith}
use Rattle.lf_layout.specs.Calendar.{days_before_year}
use Rattle.lf_layout.proofs.calendar.days_before_year.Goals as goal

pub returns-clause-exact : goal.returns-clause-exact
unfolding days_before_year
returns-clause-exact c = omega arith
