-- How a piece's moves stand among those of the line.
use Rattle.std.specs.Prelude.{ℕ, ◌<◌, ◌≤◌, ◌^◌, List, [], ◌∷◌}
use Rattle.lf_core.specs.declared.marked.Move.{Move}
use Rattle.lf_machine.specs.declared.place.Place.{Place}
use Rattle.lf_machine.specs.declared.place.Aim.{Aim}
use Rattle.lf_machine.specs.RowMoves.{shift}
use Rattle.lf_machine.specs.PlainNumbers.{redirect}
use Rattle.lf_machine.specs.Sums.{most_sum}

-- The marks and the points of a piece's moves stay small at the place.
pub record IsNear (place : Place) : Type 0 where
  pub low : place.above < 2 ^ 22
  pub early : place.base ≤ most_sum

-- a list of one move
abbrev pub one_move : ℕ → ℕ → List Move
one_move mark to = record { mark = mark; to = to } ∷ []

-- the move as the line has it
abbrev pub placed : Place → Move → Move
placed place = shift place.above place.base

-- the move as the line has it, where a lone dash may have to go on
abbrev pub aimed : Aim → Move → Move
aimed aim m = placed aim.place (redirect aim.apart aim.lone m)
