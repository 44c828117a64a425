use Rattle.std.proofs.Common.{List, sym, subst}
use Rattle.std.specs.List.{Contains}
use Rattle.std.proofs.lemmas.Bool.{iff_false}
use Rattle.lf_core.specs.Marked.{NoneTwice}
use Rattle.lf_product.specs.declared.pair.Pair.{Pair}
use Rattle.lf_product.proofs.WalkSteps.{none_twice-push}
use Rattle.lf_product.proofs.walk.add_pair.Goals as goal

pub returns-clause-once : goal.returns-clause-once
returns-clause-once c =
    let list : List Pair = c.args.list.now.items in
    let new : Contains list c.args.pair → ⊥ = subst (λ (ps : List Pair). Contains ps c.args.pair → ⊥) c.deref.ensures.value (iff_false c.has.ensures c.if-has.false) in
    subst (λ (ps : List Pair). NoneTwice ps) (sym c.in_ok-push.ensures.items) (none_twice-push list c.args.pair c.requires.once new)
