use Rattle.std.proofs.Common.{◌≤◌, ◌∙◌, ap, List, length, arith}
use Rattle.std.specs.Prelude.{Option}
use Rattle.lf_limits.specs.Limits.{most_slots}
use Rattle.lf_expression.specs.declared.expr.Expr.{Expr}
use Rattle.lf_map.proofs.Grown.{taken_short}
use Rattle.lf_map.proofs.parsing.filled.Goals as goal

pub returns-clause-length : goal.returns-clause-length
returns-clause-length c =
    let few = c.pieces-kept.ensures.keeps.few in
    let n : length c.in_ok-form.form.items ≤ most_slots = omega (arith, few, c.in_ok-form.ensures.length, c.slots.ensures) in
    taken_short c.in_ok-form.form.len c.read_parts.new.form c.in_ok-form.form.items most_slots
    (c.in_ok-read_parts.ensures.length ∙ ap (λ (f : List (Option Expr)). length f) c.as_mut_slice.ensures.value) n
