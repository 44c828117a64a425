use Rattle.std.proofs.Common.{◌≡◌, ◌∷◌, map, rules}
use Rattle.serde_json.specs.View.{view}
use Rattle.lf_format.specs.Keeps.{slots_in}
use Rattle.lf_json.specs.Reading.{StandsFor}
use Rattle.lf_json.proofs.ReadingLaws.{wrong_later}
use Rattle.lf_json.proofs.reading.+read_values.Goals as goal

pub returns-in_ok-push-in-Some-Slot-default-clause-err : goal.returns-in_ok-push-in-Some-Slot-default-clause-err
returns-in_ok-push-in-Some-Slot-default-clause-err t c =
    let slot = c.in-Some-Slot-default.slot in
    let json = view c.in-Some.item.now in
    let is : slots_in c.args.pieces.now ≡ slot ∷ slots_in c.in-Some-Slot-default.rest.now = search rules in
    let jsons : map view c.args.items.now ≡ json ∷ map view c.in-Some.others.now = search rules in
    let some : StandsFor slot json c.in-Some-2.value = search rules in
    wrong_later c.args.before slot (slots_in c.in-Some-Slot-default.rest.now) (slots_in c.args.pieces.now) json (map view c.in-Some.others.now) (map view c.args.items.now)
    c.read_values-in-Some-Slot-default.result is jsons (c.in-Some-2.value, some) c.read_values-in-Some-Slot-default.ensures.err
