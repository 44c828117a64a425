use Rattle.std.proofs.Common.{◌≡◌, ◌-◌}
use Rattle.lf_layout.specs.Names.{first_month}
use Rattle.lf_layout.specs.Places.{starts_name}
use Rattle.lf_layout.proofs.names.starting.Given as goal

abbrev pub invariant-loop-month : goal.invariant-loop-month
invariant-loop-month l = first_month (starts_name l.letter) (12 - l.month) l.month ≡ first_month (starts_name l.letter) 12 0
