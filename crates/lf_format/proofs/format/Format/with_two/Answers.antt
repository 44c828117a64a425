use Rattle.std.proofs.Common.{List, length, sym, ap, ◌∙◌}
use Rattle.lf_format.specs.declared.format.Piece.{Piece}
use Rattle.lf_format.specs.Two.{pieces_with_two}
use Rattle.lf_format.proofs.TwoLaws.{keeps_written}
use Rattle.lf_format.proofs.format.Format.with_two.Goals as goal

pub new-requires : goal.new-requires
new-requires c =
    let pieces = c.self.inside.pieces in
    let lent = c.as_mut_slice.ensures in
    keeps_written pieces.len c.tell_apart.new.pieces pieces.items
    (c.tell_apart.ensures ∙ ap pieces_with_two lent.value)
    (ap (λ (all : List Piece). length all) (sym lent.value) ∙ lent.len) c.self.invariant
