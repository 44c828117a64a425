-- The line of a record.
use Rattle.std.specs.Prelude.{◌≡◌, ◌≢◌, ℕ, List, [], ◌∷◌, ◌++◌}
use Rattle.lf_core.specs.declared.values.Value.{Value}
use Rattle.lf_format.specs.Slots.{Holds, slot_text}
use Rattle.lf_format.specs.declared.format.Piece.{Piece}
use Rattle.lf_format.specs.declared.format.Piece.TheVariants.{Literal, Slot}

-- One value for each slot, in order, each of them held.
abbrev pub IsRecordOf : List Piece → List Value → Type 0
IsRecordOf [] [] = Unit {0}
IsRecordOf [] (v ∷ rec) = ⊥
IsRecordOf (Literal text ∷ pieces) rec = IsRecordOf pieces rec
IsRecordOf (Slot slot ∷ pieces) [] = ⊥
IsRecordOf (Slot slot ∷ pieces) (v ∷ rec) = Holds slot v × IsRecordOf pieces rec

-- The literals and the slots' texts, joined in the order of the pieces.
abbrev pub line_text : List Piece → List Value → List ℕ
line_text [] rec = []
line_text (Literal bytes ∷ pieces) rec = bytes ++ line_text pieces rec
line_text (Slot slot ∷ pieces) [] = []
line_text (Slot slot ∷ pieces) (v ∷ rec) = slot_text slot v ++ line_text pieces rec

-- The record is the pieces', and the line is its text.
pub record Prints (pieces : List Piece) (rec : List Value) (line : List ℕ) : Type 0 where
  pub held : IsRecordOf pieces rec
  pub printed : line_text pieces rec ≡ line

-- No record of the pieces prints the line.
abbrev pub PrintsNone : List Piece → List ℕ → Type 0
PrintsNone pieces line = (rec : List Value) → Prints pieces rec line → ⊥

-- Two different records print the line.
pub record IsConfused (pieces : List Piece) (first second : List Value) (line : List ℕ) : Type 0 where
  pub left : Prints pieces first line
  pub right : Prints pieces second line
  pub differ : first ≢ second

-- No two different records print one line.
abbrev pub IsReadable : List Piece → Type 0
IsReadable pieces = (first second : List Value) (line : List ℕ) → IsConfused pieces first second line → ⊥
