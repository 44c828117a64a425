use Rattle.lf_time.proofs.Utc.{utc-moment}
use Rattle.lf_expression.proofs.values.in_utc.Goals as goal

pub invariant_of-result : goal.invariant_of-result
invariant_of-result c = record { dated = utc-moment c.args.civil.moment c.in-Some.moment c.args.civil.dated c.in-Some.ensures.1 c.in-Some.ensures.0 }
