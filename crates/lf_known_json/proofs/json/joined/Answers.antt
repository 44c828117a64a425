use Rattle.std.proofs.Common.{◌≡◌, [], ◌∷◌, rules}
use Rattle.lf_format.specs.declared.format.Piece.TheVariants as piece
use Rattle.lf_known_json.proofs.TestFormats.{joined_keeps}
use Rattle.lf_known_json.proofs.json.joined.Goals as goal

pub new-requires : goal.new-requires
new-requires c =
    let is : c.push-3.new.self.items ≡ piece.Slot c.args.first ∷ piece.Literal c.in_ok-bytes_of.field-0 ∷ piece.Slot c.args.second ∷ [] = search rules in
    joined_keeps c.push-3.new.self.items c.args.first c.args.second c.in_ok-bytes_of.field-0 is c.in_ok-bytes_of.ensures c.requires.first c.requires.second
