use Rattle.std.proofs.Common.{sym, ◌∙◌, arith}
use Rattle.lf_layout.specs.Places.{starts_name}
use Rattle.lf_layout.proofs.MonthSearch.{first_month-next, first_month-here, first_month-none}
use Rattle.lf_layout.proofs.names.starting.Goals as goal

pub returns-then-starts-clause-first : goal.returns-then-starts-clause-first
returns-then-starts-clause-first c =
    sym (first_month-here (starts_name c.args.letter) c.loop-month.month (omega arith) (sym c.if-starts.ensures)) ∙ c.loop-month.invariant

pub loop-month-preserved : goal.loop-month-preserved
loop-month-preserved c =
    sym (first_month-next (starts_name c.args.letter) c.loop-month.month (omega arith) (sym c.if-starts.ensures)) ∙ c.loop-month.invariant

pub returns-clause-first : goal.returns-clause-first
returns-clause-first c =
    sym (first_month-none (starts_name c.args.letter) c.loop-month.month (omega arith)) ∙ c.loop-month.invariant
