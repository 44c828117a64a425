-- Pieces as they are put together from the left.
use Rattle.std.specs.Prelude.{◌≡◌, ℕ, List, [], ◌∷◌, ◌++◌}
use Rattle.lf_spelling.specs.Pieces.{with_literal, pieces_of, slots_of}
use Rattle.lf_format.specs.declared.format.Piece.{Piece}
use Rattle.lf_format.specs.declared.format.Piece.TheVariants as piece
use Rattle.lf_spelling.specs.declared.item_reader.Given.{Given}
use Rattle.lf_spelling.specs.declared.built.Built.{Built}

-- the literal that still grows, before what comes
abbrev pub with_open : List ℕ → List Piece → List Piece
with_open [] pieces = pieces
with_open (b ∷ bytes) pieces = with_literal (b ∷ bytes) pieces

-- Whatever is given later, the pieces of all are those so far and the later ones.
pub record IsBuilt (given : List Given) (built : Built) : Type 0 where
  pub all : (later : List Given) → pieces_of (given ++ later) ≡ built.done.items ++ with_open built.grown (pieces_of later)
  pub slots : built.slots ≡ slots_of given

-- Whatever the old pieces are built of, the new ones are built of it and one more.
abbrev pub Builds : Given → Built → Built → Type 0
Builds one old new = (given : List Given) → IsBuilt given old → IsBuilt (given ++ one ∷ []) new

-- the literal that grew, as a piece
abbrev pub literal_of : List ℕ → List Piece
literal_of [] = []
literal_of (b ∷ bytes) = piece.Literal (b ∷ bytes) ∷ []

-- The literal that grew is the last piece, and none grows.
pub record IsClosed (old new : Built) : Type 0 where
  pub done : new.done.items ≡ old.done.items ++ literal_of old.grown
  pub none : new.grown ≡ []
  pub slots : new.slots ≡ old.slots
