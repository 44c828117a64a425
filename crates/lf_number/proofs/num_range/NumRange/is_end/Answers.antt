use Rattle.lf_number.proofs.Signs.{ends-by-sign}
use Rattle.lf_number.proofs.num_range.NumRange.is_end.Goals as goal

pub returns : goal.returns
returns c =
    ends-by-sign c.args.self.lo c.args.self.hi c.args.point c.base_of-base.result c.is_done.result c.base_of-base.ensures.exact c.is_done.ensures
