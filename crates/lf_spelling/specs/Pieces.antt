-- The pieces that items give, with neighbouring literals joined.
use Rattle.std.specs.Prelude.{ℕ, ◌+◌, List, [], ◌∷◌, ◌++◌, codes}
use Rattle.lf_format.specs.declared.format.Piece.{Piece}
use Rattle.lf_format.specs.declared.format.Piece.TheVariants as piece
use Rattle.lf_spelling.specs.declared.item_reader.Given.{Given}
use Rattle.lf_spelling.specs.declared.item_reader.Given.TheVariants.{Nothing, Byte, Slot, Spaced, Braced}

-- a literal before other pieces: it joins one that it touches
abbrev pub with_literal : List ℕ → List Piece → List Piece
with_literal text [] = piece.Literal text ∷ []
with_literal text (piece.Literal more ∷ pieces) = piece.Literal (text ++ more) ∷ pieces
with_literal text (piece.Slot slot ∷ pieces) = piece.Literal text ∷ piece.Slot slot ∷ pieces

-- the pieces that items give, in order
abbrev pub pieces_of : List Given → List Piece
pieces_of [] = []
pieces_of (Nothing ∷ given) = pieces_of given
pieces_of (Byte b ∷ given) = with_literal (b ∷ []) (pieces_of given)
pieces_of (Slot slot ∷ given) = piece.Slot slot ∷ pieces_of given
pieces_of (Spaced slot ∷ given) = with_literal (codes " ") (piece.Slot slot ∷ pieces_of given)
pieces_of (Braced slot ∷ given) = with_literal (codes "{") (piece.Slot slot ∷ with_literal (codes "}") (pieces_of given))

-- how many slots are given
abbrev pub slots_of : List Given → ℕ
slots_of [] = 0
slots_of (Nothing ∷ given) = slots_of given
slots_of (Byte b ∷ given) = slots_of given
slots_of (Slot slot ∷ given) = 1 + slots_of given
slots_of (Spaced slot ∷ given) = 1 + slots_of given
slots_of (Braced slot ∷ given) = 1 + slots_of given
