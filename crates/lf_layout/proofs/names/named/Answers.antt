use Rattle.std.proofs.Common.{sym, ◌∙◌, arith}
use Rattle.lf_layout.specs.Names.{has_letters}
use Rattle.lf_layout.proofs.MonthSearch.{first_month-next, first_month-here, first_month-none}
use Rattle.lf_layout.proofs.names.named.Goals as goal

pub returns-then-has_letters-clause-first : goal.returns-then-has_letters-clause-first
returns-then-has_letters-clause-first c =
    sym (first_month-here (has_letters c.args.first c.args.second c.args.third) c.loop-month.month (omega arith) (sym c.if-has_letters.ensures)) ∙ c.loop-month.invariant

pub loop-month-preserved : goal.loop-month-preserved
loop-month-preserved c =
    sym (first_month-next (has_letters c.args.first c.args.second c.args.third) c.loop-month.month (omega arith) (sym c.if-has_letters.ensures)) ∙ c.loop-month.invariant

pub returns-clause-first : goal.returns-clause-first
returns-clause-first c =
    sym (first_month-none (has_letters c.args.first c.args.second c.args.third) c.loop-month.month (omega arith)) ∙ c.loop-month.invariant
