use Rattle.lf_layout.proofs.Casts.{civil_day-cast}
use Rattle.lf_expression.proofs.values.civil_day.Goals as goal

pub returns : goal.returns
returns c = civil_day-cast c.args.civil.moment c.div_euclid-day.result c.args.civil.dated c.div_euclid-day.ensures
