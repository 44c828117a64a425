-- A record that is drawn is one of the format.
use Rattle.std.proofs.Common.{ℕ, List, [], ◌∷◌}
use Rattle.lf_core.specs.declared.values.Value.{Value}
use Rattle.lf_format.specs.Lines.{IsRecordOf}
use Rattle.lf_format.specs.declared.format.Piece.{Piece}
use Rattle.lf_format.specs.declared.format.Piece.TheVariants.{Literal, Slot}
use Rattle.lf_gen.specs.Drawn.{IsDrawn, slot_state}

pub drawn-held : (pieces : List Piece) (x : ℕ) (rec : List Value) → IsDrawn pieces x rec → IsRecordOf pieces rec
drawn-held [] x [] h = tt
drawn-held [] x (v ∷ rec) h = h
drawn-held (Literal text ∷ pieces) x rec h = drawn-held pieces x rec h
drawn-held (Slot slot ∷ pieces) x [] h = h
drawn-held (Slot slot ∷ pieces) x (v ∷ rec) h = (h.0.held, drawn-held pieces (slot_state slot x) rec h.1)
