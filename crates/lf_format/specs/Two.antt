-- A format whose slots tell absence from a lone dash.
use Rattle.std.specs.Prelude.{◌≡◌, List, [], ◌∷◌, false}
use Rattle.lf_core.specs.declared.values.Value.{Value}
use Rattle.lf_format.specs.declared.slot.Slot.{Slot as OneSlot}
use Rattle.lf_format.specs.declared.slot.Absent.{Absent}
use Rattle.lf_format.specs.declared.slot.Absent.TheVariants.{Dash, DashTwo}
use Rattle.lf_format.specs.declared.format.Piece.{Piece}
use Rattle.lf_format.specs.declared.format.Piece.TheVariants.{Literal, Slot}
use Rattle.lf_format.specs.Kinds.{HoldsKind, plain_text}
use Rattle.lf_format.specs.Shape.{Shape}

-- Absence that is printed as `-` leaves room for a value that is printed so.
abbrev pub absence_with_two : Absent → Absent
absence_with_two Dash = DashTwo
absence_with_two absent = absent

-- the slot with nothing else changed
abbrev pub slot_with_two : OneSlot → OneSlot
slot_with_two slot = record slot { absent = absence_with_two slot.absent }

-- the pieces with each slot changed so
abbrev pub pieces_with_two : List Piece → List Piece
pieces_with_two [] = []
pieces_with_two (Literal text ∷ pieces) = Literal text ∷ pieces_with_two pieces
pieces_with_two (Slot slot ∷ pieces) = Slot (slot_with_two slot) ∷ pieces_with_two pieces

-- the same format with `DashTwo` in place of every `Dash`
abbrev pub with_two : Shape → Shape
with_two format = record { pieces = pieces_with_two format.pieces; end = format.end; notes = format.notes }

-- The value is of the slot's domain, and the slot would take it for absence, which it prints as `-`.
pub record IsLoneDash (slot : OneSlot) (v : Value) : Type 0 where
  pub dash : slot.absent ≡ Dash
  pub unquoted : slot.quoted ≡ false
  pub held : HoldsKind slot.kind v
  pub plain : plain_text slot.kind v ≡ 45 ∷ []
