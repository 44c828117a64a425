-- The least confused line, and the least records that print a line.
use Rattle.std.specs.Prelude.{◌≡◌, ◌≢◌, ℕ, ◌⊎◌, List}
use Rattle.lf_core.specs.declared.values.Value.{Value}
use Rattle.lf_format.specs.Lines.{Prints, IsConfused}
use Rattle.lf_format.specs.declared.format.Piece.{Piece}
use Rattle.lf_machine.specs.RecordOrder.{IsRecordLess}
use Rattle.lf_product.specs.Walk.{LineLe}

-- The record prints the line, and no other does.
pub record IsOnlyRecord (pieces : List Piece) (line : List ℕ) (rec : List Value) : Type 0 where
  pub prints : Prints pieces rec line
  pub only : (other : List Value) → Prints pieces other line → other ≡ rec

-- Two different records print the line.
abbrev pub IsConfusedLine : List Piece → List ℕ → Type 0
IsConfusedLine pieces line = (first : List Value) × (second : List Value) × IsConfused pieces first second line

-- The record is less than the other, or the same.
abbrev pub IsAtMost : List Piece → List Value → List Value → Type 0
IsAtMost pieces rec other = (rec ≡ other) ⊎ IsRecordLess pieces rec other

-- The least of the records that print the line.
pub record IsLeastRecord (pieces : List Piece) (line : List ℕ) (rec : List Value) : Type 0 where
  pub prints : Prints pieces rec line
  pub least : (other : List Value) → Prints pieces other line → IsAtMost pieces rec other

-- The least of those that differ from the first.
pub record IsSecondRecord (pieces : List Piece) (line : List ℕ) (first rec : List Value) : Type 0 where
  pub prints : Prints pieces rec line
  pub differs : rec ≢ first
  pub least : (other : List Value) → Prints pieces other line → other ≢ first → IsAtMost pieces rec other

-- The least line that two different records print, and the two least records that print it.
pub record IsLeastConfused (pieces : List Piece) (line : List ℕ) (first second : List Value) : Type 0 where
  pub least : (other : List ℕ) → IsConfusedLine pieces other → LineLe line other
  pub on_first : IsLeastRecord pieces line first
  pub on_second : IsSecondRecord pieces line first second
