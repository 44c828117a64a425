-- What the moves of a piece tell of its value.
use Rattle.std.specs.Prelude.{◌≡◌, ℕ, ◌+◌, ◌-◌, List, [], ◌∷◌, Option, None, Some, Bool, false, cond, map, nat_le, ◌==◌, ◌&&◌}
use Rattle.std.specs.List.{filter_map}
use Rattle.lf_core.specs.declared.marked.Move.{Move}
use Rattle.lf_core.specs.declared.values.Value.{Value}
use Rattle.lf_format.specs.Keeps.{EachKept, KeepsSlot}
use Rattle.lf_format.specs.Lines.{IsRecordOf}
use Rattle.lf_format.specs.Slots.{Holds}
use Rattle.lf_format.specs.declared.slot.Slot.{Slot}
use Rattle.lf_format.specs.declared.format.Piece.{Piece}
use Rattle.lf_machine.specs.Pieces.{slot_run}
use Rattle.lf_machine.specs.Records.{record_steps}
use Rattle.lf_machine.specs.Unquoted.{marks_in}

-- the letter that a mark tells among those that are raised by `above`
abbrev pub told_letter : ℕ → ℕ → Option ℕ
told_letter above mark =
    cond (nat_le 3 (mark - above) && nat_le (mark - above) 258) (Some ((mark - above) - 3)) None

-- the letters that moves tell
abbrev pub told_letters : ℕ → List Move → List ℕ
told_letters above moves = filter_map (λ m. told_letter above m.mark) moves

-- whether the first move is that of the dash of absence
abbrev pub tells_dash : ℕ → List Move → Bool
tells_dash above [] = false
tells_dash above (m ∷ moves) = m.mark == above + 1

-- The moves are those of a value that the slot holds; their marks are raised by `above`.
pub record IsOfValue (slot : Slot) (above : ℕ) (moves : List Move) (v : Value) : Type 0 where
  pub kept : KeepsSlot slot
  pub held : Holds slot v
  pub marks : map (λ m. m.mark) moves ≡ map (λ k. above + k) (marks_in (slot_run slot.quoted slot v))

-- The moves have the marks of the record's run.
pub record IsOfRecord (pieces : List Piece) (moves : List Move) (rec : List Value) : Type 0 where
  pub kept : EachKept pieces
  pub held : IsRecordOf pieces rec
  pub marks : map (λ m. m.mark) moves ≡ marks_in (record_steps pieces rec)
