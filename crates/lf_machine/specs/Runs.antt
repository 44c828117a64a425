-- What the runs of a format's machine say.
use Rattle.std.specs.Prelude.{◌≡◌, ℕ, List}
use Rattle.lf_core.specs.Marked.{Machine, IsWholeRun}
use Rattle.lf_core.specs.declared.marked.Move.{Move}
use Rattle.lf_core.specs.declared.values.Value.{Value}
use Rattle.lf_format.specs.Lines.{IsRecordOf, line_text}
use Rattle.lf_format.specs.declared.format.Piece.{Piece}

-- Exactly one whole run for each record, over its line, and no other: `run` gives it.
pub record HasRuns (pieces : List Piece) (machine : Machine) (run : List Value → List Move) : Type 0 where
  pub each : (rec : List Value) → IsRecordOf pieces rec → IsWholeRun machine (line_text pieces rec) (run rec)
  pub no_other : (line : List ℕ) (moves : List Move) → IsWholeRun machine line moves →
      (rec : List Value) × IsRecordOf pieces rec × (line ≡ line_text pieces rec) × (moves ≡ run rec)
  pub apart : (rec other : List Value) → IsRecordOf pieces rec → IsRecordOf pieces other → run rec ≡ run other → rec ≡ other

-- The moves are a whole run over some line.
abbrev pub HasLine : Machine → List Move → Type 0
HasLine machine moves = (line : List ℕ) × IsWholeRun machine line moves

-- The record is the one whose run this is: it prints each line that the run is over.
pub record IsRecordOfRun (pieces : List Piece) (machine : Machine) (run : List Value → List Move) (moves : List Move) (rec : List Value) : Type 0 where
  pub held : IsRecordOf pieces rec
  pub same : run rec ≡ moves
  pub prints : (line : List ℕ) → IsWholeRun machine line moves → line_text pieces rec ≡ line
