use Rattle.std.proofs.Common.{rules}
use Rattle.std.specs.Prelude.{FitsSigned}
use Rattle.std.specs.Int.{w64}
use Rattle.lf_layout.proofs.Casts.{second_of_day-cast}
use Rattle.lf_expression.proofs.values.civil_second.Goals as goal

pub returns : goal.returns
returns c =
    let fits : FitsSigned w64 c.args.civil.moment.seconds = search rules in
    second_of_day-cast c.args.civil.moment.seconds c.rem_euclid-second.result fits c.rem_euclid-second.ensures.value
