-- What the machine of a format keeps.
use Rattle.std.specs.Prelude.{◌≡◌, ℕ, ◌+◌, ◌<◌, ◌≤◌, ◌^◌, List, length}
use Rattle.lf_format.specs.Keeps.{EachKept}
use Rattle.lf_format.specs.declared.format.Piece.{Piece}
use Rattle.lf_machine.specs.LineBytes.{LiteralsAreBytes}
use Rattle.lf_machine.specs.LineMachine.{line_points}
use Rattle.lf_machine.specs.Spots.{spots_from}
use Rattle.lf_machine.specs.declared.spots.Spot.{Spot}
use Rattle.lf_limits.specs.Limits.{most_size}

-- The parts, the spots and the number of points are those of the pieces.
pub record IsBuilt (pieces : List Piece) (spots : List Spot) (count : ℕ) : Type 0 where
  pub counted : count ≡ line_points pieces + 1
  pub few : line_points pieces < most_size
  pub short : length pieces ≤ most_size
  pub kept : EachKept pieces
  pub bytes : LiteralsAreBytes pieces
  pub spotted : spots ≡ spots_from 0 1 pieces
