-- The piece that a part of the machine is of.
use Rattle.std.specs.Prelude.{◌≤◌, ◌^◌, length}
use Rattle.lf_format.specs.declared.format.Piece.{Piece}
use Rattle.lf_format.specs.declared.format.Piece.TheVariants as pieces
use Rattle.lf_machine.specs.declared.piece_part.Part.{Part}
use Rattle.lf_machine.specs.declared.piece_part.Part.TheVariants.{Literal, Slot}
use Rattle.lf_limits.specs.Limits.{most_size}

-- The piece that a part stands for.
abbrev pub piece_of : Part → Piece
piece_of (Literal text) = pieces.Literal text
piece_of (Slot slot) = pieces.Slot slot

-- A literal is short enough for its points to be numbered.
abbrev pub IsShort : Piece → Type 0
IsShort (pieces.Literal text) = length text ≤ most_size
IsShort (pieces.Slot slot) = Unit {0}
