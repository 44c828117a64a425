use Rattle.std.proofs.Common.{◌≤◌, subst, sym, arith}
use Rattle.std.proofs.Common.{ℕ, List}
use Rattle.lf_limits.specs.Limits.{most_length}
use Rattle.lf_narrow.specs.Terms.{number_of}
use Rattle.lf_narrow.proofs.Digits.{slot_bound}
use Rattle.lf_narrow.proofs.reading.slot.Goals as goal

pub number-requires : goal.number-requires
number-requires c =
    let h : number_of c.cut_before.result.0.now ≤ most_length = subst (λ (w : List ℕ). number_of w ≤ most_length) (sym c.cut_before.ensures.front) (slot_bound c.in-Some.first.now c.in-Some.rest.now c.args.text.now c.in-Some.ensures.cases.0 c.if-first-eq42.false c.requires) in
    omega (arith, h)

pub overflow_cast-result : goal.overflow_cast-result
overflow_cast-result c =
    let h : number_of c.cut_before.result.0.now ≤ most_length = subst (λ (w : List ℕ). number_of w ≤ most_length) (sym c.cut_before.ensures.front) (slot_bound c.in-Some.first.now c.in-Some.rest.now c.args.text.now c.in-Some.ensures.cases.0 c.if-first-eq42.false c.requires) in
    omega (arith, h, c.number.ensures)
