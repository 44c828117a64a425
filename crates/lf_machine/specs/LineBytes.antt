-- The line of a record is made of bytes.
use Rattle.std.proofs.Common.{ℕ, ◌<◌, List, [], ◌∷◌, All}
use Rattle.lf_format.specs.declared.format.Piece.{Piece}
use Rattle.lf_format.specs.declared.format.Piece.TheVariants.{Literal, Slot}

-- The number is a byte.
abbrev pub IsByte : ℕ → Type 0
IsByte byte = byte < 256

-- A literal is made of bytes.
abbrev pub IsOfBytes : Piece → Type 0
IsOfBytes (Literal text) = All IsByte text
IsOfBytes (Slot slot) = Unit {0}

-- Each literal is made of bytes.
abbrev pub LiteralsAreBytes : List Piece → Type 0
LiteralsAreBytes [] = Unit {0}
LiteralsAreBytes (piece ∷ pieces) = IsOfBytes piece × LiteralsAreBytes pieces
