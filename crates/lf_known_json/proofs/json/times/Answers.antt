use Rattle.std.proofs.Common.{◌≡◌, [], ◌∷◌, rules}
use Rattle.lf_format.specs.declared.format.Piece.TheVariants as piece
use Rattle.lf_known_json.proofs.TestFormats.{four_keep}
use Rattle.lf_known_json.proofs.json.times.Goals as goal

pub new-requires : goal.new-requires
new-requires c =
    let is : c.push-4.new.self.items ≡ piece.Slot c.in_ok-offset.offset ∷ piece.Slot c.in_ok-millis.millis ∷ piece.Slot c.in_ok-day.day ∷ piece.Slot c.in_ok-clock.clock ∷ [] = search rules in
    four_keep c.push-4.new.self.items c.in_ok-offset.offset c.in_ok-millis.millis c.in_ok-day.day c.in_ok-clock.clock is
    c.in_ok-offset.ensures c.in_ok-millis.ensures c.in_ok-day.ensures c.in_ok-clock.ensures
