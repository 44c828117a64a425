use Rattle.std.proofs.Common.{rules}
use Rattle.lf_number.proofs.Signs.{positive-few}
use Rattle.lf_number.proofs.num_range.NumRange.base_of.Goals as goal

pub returns-then-self-ge0-clause-few : goal.returns-then-self-ge0-clause-few
returns-then-self-ge0-clause-few c =
    positive-few c.args.self.lo c.args.self.hi (search rules) (search rules) c.args.point c.if-self-ge0.true c.requires
