use Rattle.std.proofs.Common.{ℕ, List, ap, ◌∙◌}
use Rattle.lf_limits.specs.Limits.{most_nesting}
use Rattle.lf_map.specs.Letters.{number_of}
use Rattle.lf_map.specs.Assigns.{Read, expr_read}
use Rattle.lf_map.proofs.reading.read_assign.Goals as goal

pub returns-clause-target : goal.returns-clause-target
returns-clause-target c = c.number-target.ensures ∙ ap (λ (w : List ℕ). number_of 999 w) c.past_first.ensures

pub returns-clause-expr : goal.returns-clause-expr
returns-clause-expr c = ap (λ (r : Read). r.expr) c.in_ok-read.ensures ∙ ap (λ (w : List ℕ). (expr_read most_nesting w).expr) c.past.ensures
