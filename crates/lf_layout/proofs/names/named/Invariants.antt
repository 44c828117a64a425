use Rattle.std.proofs.Common.{◌≡◌, ◌-◌}
use Rattle.lf_layout.specs.Names.{first_month}
use Rattle.lf_layout.specs.Names.{has_letters}
use Rattle.lf_layout.proofs.names.named.Given as goal

abbrev pub invariant-loop-month : goal.invariant-loop-month
invariant-loop-month l = first_month (has_letters l.first l.second l.third) (12 - l.month) l.month ≡ first_month (has_letters l.first l.second l.third) 12 0
