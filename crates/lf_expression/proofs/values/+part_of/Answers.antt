use Rattle.std.proofs.Common.{◌≡◌, ◌∙◌, sym, ap, subst, ℕ, List}
use Rattle.std.specs.Prelude.{Option, Some, None, IfSome, IfNone}
use Rattle.lf_expression.proofs.Cutting.{nothing_left}
use Rattle.lf_expression.proofs.Spaces.{first_part, no_part, further_part}
use Rattle.lf_expression.proofs.values.+part_of.Goals as goal

pub returns-then-k-le1-clause-some : goal.returns-then-k-le1-clause-some
returns-then-k-le1-clause-some t c = first_part c.args.text.now c.args.k c.if-k-le1.true ∙ ap (λ (w : List ℕ). Some w) (sym c.cut_before.ensures.front)

pub returns-in-None-clause-none : goal.returns-in-None-clause-none
returns-in-None-clause-none t c =
    no_part c.args.text.now c.args.k c.if-k-le1.false (sym c.cut_before.ensures.rest ∙ nothing_left c.cut_before.result.1.now c.in-None.ensures.cases)

pub returns-in-Some-clause-some : goal.returns-in-Some-clause-some
returns-in-Some-clause-some t c =
    let e = further_part c.args.text.now c.args.k c.if-k-le1.false c.in-Some._space.now c.in-Some.more.now (sym c.cut_before.ensures.rest ∙ c.in-Some.ensures.cases.0) in
    subst (λ (o : Option (List ℕ)). IfSome c.part_of.result (λ part. o ≡ Some part.now)) (sym e) c.part_of.ensures.some

pub returns-in-Some-clause-none : goal.returns-in-Some-clause-none
returns-in-Some-clause-none t c =
    let e = further_part c.args.text.now c.args.k c.if-k-le1.false c.in-Some._space.now c.in-Some.more.now (sym c.cut_before.ensures.rest ∙ c.in-Some.ensures.cases.0) in
    subst (λ (o : Option (List ℕ)). IfNone c.part_of.result (o ≡ None)) (sym e) c.part_of.ensures.none
