use Rattle.std.proofs.Common.{List, ◌∷◌, [], ◌++◌, take, subst, sym, ap, ◌∙◌, arith}
use Rattle.std.proofs.lemmas.List.{take_more, take_all}
use Rattle.lf_core.specs.declared.values.Value.{Value}
use Rattle.lf_gen.specs.Compared.{IsLeastOf}
use Rattle.lf_gen.proofs.least.least_of.Goals as goal

pub loop-value-preserved : goal.loop-value-preserved
loop-value-preserved c =
    let values = c.args.values.now in
    let i = c.loop-value.value-index in
    let v = c.value-item.result in
    let more = take_more values i v c.loop-value-test.true ∙ ap (λ (x : Value). take i values ++ x ∷ []) (sym c.value-item.is) in
    subst (λ (vs : List Value). IsLeastOf c.args.slot.now vs c.in_ok-least.least) (sym more) (c.in_ok-least.ensures (take i values) c.loop-value.invariant)

pub returns : goal.returns
returns c =
    let values = c.args.values.now in
    let i = c.loop-value.value-index in
    subst (λ (vs : List Value). IsLeastOf c.args.slot.now vs c.loop-value.least) (take_all i values (omega (arith, c.loop-value-test.false))) c.loop-value.invariant
