use Rattle.std.proofs.Common.{List, subst}
use Rattle.lf_core.specs.declared.values.Value.{Value}
use Rattle.lf_gen.specs.Compared.{IsLeastOf}
use Rattle.lf_gen.proofs.LeastOfAll.{least-of_all, least-there}
use Rattle.lf_gen.proofs.least.least_value.Goals as goal

pub unreachable-requires : goal.unreachable-requires
unreachable-requires c =
    let slot = c.args.slot.now in
    let found = subst (λ (values : List Value). IsLeastOf slot values c.in_ok-least.least) c.as_slice.ensures.value c.in_ok-least.ensures in
    least-there slot c.in_ok-values.values.items c.in_ok-values.ensures c.requires.some.0 c.requires.some.1
    (subst (IsLeastOf slot c.in_ok-values.values.items) c.in-None.is found)

pub returns : goal.returns
returns c =
    let slot = c.args.slot.now in
    let found = subst (λ (values : List Value). IsLeastOf slot values c.in_ok-least.least) c.as_slice.ensures.value c.in_ok-least.ensures in
    least-of_all slot c.in_ok-values.values.items c.in-Some.value c.in_ok-values.ensures
    (subst (IsLeastOf slot c.in_ok-values.values.items) c.in-Some.is found)
