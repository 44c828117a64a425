use Rattle.std.proofs.Common.{◌≡◌, rules, ◌<◌, ◌∙◌, sym, ap, length, refl}
use Rattle.std.proofs.lemmas.List.{get_or_default}
use Rattle.lf_product.specs.declared.arrivals.Departure.{Departure}
use Rattle.lf_product.proofs.Joins.{departs_set_kept, departs_set_new, departs_push}
use Rattle.lf_product.proofs.arrivals.add_departure.Goals as goal

pub returns-then-index-step-2-clause-kept : goal.returns-then-index-step-2-clause-kept
returns-then-index-step-2-clause-kept c =
    let lt : c.loop-i.i < length c.loop-i.departures.items = search rules in
    λ x b h. departs_set_kept c.loop-i.departures.items c.loop-i.i c.index_mut-d.result.now _ x b lt (sym c.index_mut-d.ensures.value) refl refl c.with-d.ensures.kept (rw c.loop-i.invariant h)

pub returns-then-index-step-2-clause-added : goal.returns-then-index-step-2-clause-added
returns-then-index-step-2-clause-added c =
    let lt : c.loop-i.i < length c.loop-i.departures.items = search rules in
    let one : c.index_mut-d.result.now ≡ c.index.result.now = c.index_mut-d.ensures.value ∙ get_or_default c.loop-i.departures.items c.loop-i.i c.index_mut-d.result.now c.index.result.now lt ∙ sym c.index.ensures in
    let two : c.index_mut-d.result.now ≡ c.index-then-index-step.result.now = c.index_mut-d.ensures.value ∙ get_or_default c.loop-i.departures.items c.loop-i.i c.index_mut-d.result.now c.index-then-index-step.result.now lt ∙ sym c.index-then-index-step.ensures in
    departs_set_new c.loop-i.departures.items c.loop-i.i _ c.args.step c.args.byte lt
    (ap (λ (d : Departure). d.mark) one ∙ c.if-index-step.true)
    (ap (λ (d : Departure). d.to) two ∙ c.if-index-step-2.true)
    c.with-d.ensures.added

pub returns-clause-added : goal.returns-clause-added
returns-clause-added c = rw c.in_ok-push.ensures.items (departs_push c.loop-i.departures.items _ c.args.step c.args.byte refl refl c.with.ensures.added)
