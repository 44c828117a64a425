use Rattle.std.proofs.Common.{sym, ◌∙◌, arith}
use Rattle.lf_layout.specs.Places.{goes_on}
use Rattle.lf_layout.proofs.MonthSearch.{first_month-next, first_month-here, first_month-none}
use Rattle.lf_layout.proofs.names.going_on.Goals as goal

pub returns-then-goes_on-clause-first : goal.returns-then-goes_on-clause-first
returns-then-goes_on-clause-first c =
    sym (first_month-here (goes_on c.args.other c.args.letter) c.loop-month.month (omega arith) (sym c.if-goes_on.ensures)) ∙ c.loop-month.invariant

pub loop-month-preserved : goal.loop-month-preserved
loop-month-preserved c =
    sym (first_month-next (goes_on c.args.other c.args.letter) c.loop-month.month (omega arith) (sym c.if-goes_on.ensures)) ∙ c.loop-month.invariant

pub returns-clause-first : goal.returns-clause-first
returns-clause-first c =
    sym (first_month-none (goes_on c.args.other c.args.letter) c.loop-month.month (omega arith)) ∙ c.loop-month.invariant
