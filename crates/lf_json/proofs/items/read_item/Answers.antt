use Rattle.std.proofs.Common.{rules, ◌≡◌, subst}
use Rattle.std.proofs.lemmas.Bool.{false≢true}
use Rattle.serde_json.specs.View.{view}
use Rattle.lf_format.specs.Kinds.{value_kind}
use Rattle.lf_format.specs.Slots.{Holds}
use Rattle.lf_json.specs.Reading.{StandsForValue}
use Rattle.lf_json.proofs.Standing.{value-same}
use Rattle.lf_json.proofs.items.read_item.Goals as goal

pub returns-else-holds : goal.returns-else-holds
returns-else-holds c =
    let slot = c.args.slot.now in
    let json = view c.args.json.now in
    let is : StandsForValue (value_kind slot.kind) json c.in-Some.value = search rules in
    λ v s.
    let same : v ≡ c.in-Some.value = value-same (value_kind slot.kind) json v c.in-Some.value s.is is in
    false≢true (c.if-holds.ensures.1 (subst (λ x. Holds slot x) same s.held))
