use Rattle.std.proofs.Common.{rules}
use Rattle.std.specs.Prelude.{FitsSigned}
use Rattle.std.specs.Int.{w64}
use Rattle.lf_layout.proofs.Casts.{second_of_day-cast}
use Rattle.lf_layout.proofs.writing.second_of_day.Goals as goal

pub returns-clause-exact : goal.returns-clause-exact
returns-clause-exact c =
    let fits : FitsSigned w64 c.args.seconds = search rules in
    second_of_day-cast c.args.seconds c.rem_euclid.result fits c.rem_euclid.ensures.value
