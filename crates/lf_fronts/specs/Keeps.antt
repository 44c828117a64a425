-- What a format that a text spells keeps.
use Rattle.std.specs.Prelude.{◌≡◌, ℕ, ltb, Bool, true, List, [], ◌∷◌}
use Rattle.std.specs.List.{list_all}
use Rattle.lf_format.specs.Keeps.{KeepsFormat}
use Rattle.lf_format.specs.Shape.{Shape}
use Rattle.lf_format.specs.declared.format.Piece.{Piece}
use Rattle.lf_format.specs.declared.format.Piece.TheVariants.{Literal, Slot}

-- whether the number is a byte
abbrev pub is_byte : ℕ → Bool
is_byte b = ltb b 256

-- Each literal is made of bytes.
abbrev pub AreOfBytes : List Piece → Type 0
AreOfBytes [] = Unit {0}
AreOfBytes (Literal text ∷ pieces) = (list_all is_byte text ≡ true) × AreOfBytes pieces
AreOfBytes (Slot slot ∷ pieces) = AreOfBytes pieces

-- The format keeps what a format keeps, and its literals are made of bytes.
pub record IsFormat (format : Shape) : Type 0 where
  pub keeps : KeepsFormat format.pieces
  pub bytes : AreOfBytes format.pieces
