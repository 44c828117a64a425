-- By point, the part that it is of.
use Rattle.std.specs.Prelude.{◌≡◌, ℕ, zero, suc, ◌+◌, ◌-◌, ◌<◌, ◌≤◌, List, [], ◌∷◌, ◌++◌, Bool, length, drop}
use Rattle.lf_format.specs.declared.format.Piece.{Piece}
use Rattle.lf_machine.specs.LineMachine.{line_points, line_moves, line_done}
use Rattle.lf_machine.specs.PieceNumbers.{piece_count, piece_is_done}
use Rattle.lf_machine.specs.declared.spots.Spot.{Spot}

-- the spot of a piece's point: the piece has the number, and its points begin at the base
abbrev pub spot_of : ℕ → ℕ → Piece → ℕ → Spot
spot_of number base p at = record { part = number; base = base; done = piece_is_done p at }

-- the spots of a piece's points below a bound
unfoldable pub piece_spots : ℕ → ℕ → Piece → ℕ → List Spot
piece_spots number base p zero = []
piece_spots number base p (suc n) = piece_spots number base p n ++ spot_of number base p n ∷ []

-- a spot for each point of the pieces, the first of which has the number and the base
abbrev pub spots_from : ℕ → ℕ → List Piece → List Spot
spots_from number base [] = []
spots_from number base (p ∷ ps) =
    piece_spots number base p (piece_count p) ++ spots_from (number + 1) (base + piece_count p) ps

-- The point is of the first of the pieces, whose points begin at the start, and that piece may end there as the flag says.
abbrev pub IsOfFirst : List Piece → ℕ → ℕ → Bool → Type 0
IsOfFirst [] start point done = ⊥
IsOfFirst (p ∷ ps) start point done = (start ≤ point) × (point < start + piece_count p) × (done ≡ piece_is_done p (point - start))

-- The point is of the part that the spot names, among parts whose points begin at the base.
pub record IsSpotOf (ps : List Piece) (base point : ℕ) (part start : ℕ) (stops : Bool) : Type 0 where
  pub within : part < length ps
  pub first : IsOfFirst (drop part ps) start point stops
  pub moves : (byte : ℕ) → line_moves ps base point byte ≡ line_moves (drop part ps) start point byte
  pub done : line_done ps base point ≡ line_done (drop part ps) start point
  pub points : start + line_points (drop part ps) ≤ base + line_points ps
  pub fewer : length (drop part ps) ≤ length ps
