use Rattle.std.proofs.Common.{rules}
use Rattle.std.specs.Prelude.{FitsSigned}
use Rattle.std.specs.Int.{w32}
use Rattle.lf_layout.proofs.Casts.{seconds-cast}
use Rattle.lf_layout.proofs.readings.seconds_of.Goals as goal

pub returns : goal.returns
returns c =
    let fits : FitsSigned w32 c.args.day = search rules in
    seconds-cast c.args.day c.args.second fits c.ranges.second.fits
