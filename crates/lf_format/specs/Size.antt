-- The size of a format, which bounds the points of its machine.
use Rattle.std.specs.Prelude.{ℕ, ◌+◌, ◌*◌, List, [], ◌∷◌, length}
use Rattle.lf_escape.specs.Codings.{prefixes_of}
use Rattle.lf_format.specs.Kinds.{kind_size}
use Rattle.lf_format.specs.declared.format.Piece.{Piece}
use Rattle.lf_format.specs.declared.format.Piece.TheVariants.{Literal, Slot}

-- The size of a piece: a literal's bytes; of a slot its domain's size for each prefix of its code, and three.
abbrev pub piece_size : Piece → ℕ
piece_size (Literal text) = length text
piece_size (Slot slot) = kind_size slot.kind * prefixes_of slot.code + 3

-- The sizes of the pieces, summed.
abbrev pub pieces_size : List Piece → ℕ
pieces_size [] = 0
pieces_size (piece ∷ pieces) = piece_size piece + pieces_size pieces

-- The size of a format: that of its pieces, and two.
abbrev pub size_of : List Piece → ℕ
size_of pieces = pieces_size pieces + 2
