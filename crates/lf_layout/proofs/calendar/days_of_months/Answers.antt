use Rattle.std.proofs.Common.{sym, arith}
use Rattle.lf_layout.proofs.JiffCalendar.{months-none, months-more}
use Rattle.lf_layout.proofs.calendar.days_of_months.Goals as goal

pub loop-month-init : goal.loop-month-init
loop-month-init c = record { exact = sym (months-none c.args.year); most = omega arith }

pub loop-month-preserved : goal.loop-month-preserved
loop-month-preserved c = record {
  exact = months-more c.args.year c.is_leap-leap.result c.loop-month.month c.loop-month.days c.days_of_month-days.result c.is_leap-leap.ensures c.loop-month.invariant.exact c.days_of_month-days.ensures.exact;
  most = omega (arith, c.loop-month.invariant.most, c.days_of_month-days.ensures.most);
}
