use Rattle.lf_number.proofs.Signs.{next-by-sign}
use Rattle.lf_number.proofs.num_range.NumRange.after.Goals as goal

pub returns-then-digit-lt10 : goal.returns-then-digit-lt10
returns-then-digit-lt10 c =
    next-by-sign c.args.self.lo c.args.self.hi c.args.point c.args.letter c.digit_of-digit.result c.base_of-base.result c.after_digit.result c.digit_of-digit.ensures.exact c.if-digit-lt10.true c.base_of-base.ensures.exact c.after_digit.ensures
