use Rattle.std.proofs.Common.{◌≡◌, ◌-◌}
use Rattle.lf_layout.specs.Names.{first_month}
use Rattle.lf_layout.specs.Places.{goes_on}
use Rattle.lf_layout.proofs.names.going_on.Given as goal

abbrev pub invariant-loop-month : goal.invariant-loop-month
invariant-loop-month l = first_month (goes_on l.other l.letter) (12 - l.month) l.month ≡ first_month (goes_on l.other l.letter) 12 0
