use Rattle.std.proofs.Common.{◌≡◌, ◌*◌, ◌≤◌}
use Rattle.lf_layout.specs.Calendar.{days_of_months}
use Rattle.lf_layout.proofs.calendar.days_of_months.Given as goal

abbrev pub invariant-loop-month : goal.invariant-loop-month
invariant-loop-month l = record {
  exact : l.days ≡ days_of_months l.fn.year l.month;
  most : l.days ≤ 31 * l.month;
}
