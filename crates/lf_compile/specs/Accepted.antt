-- Which formats have a reader, and for what cause the others have none.
use Rattle.std.specs.Prelude.{◌≡◌, ◌≢◌, ℕ, ◌<◌, ◌≤◌, List, Option, None, Some, true}
use Rattle.lf_core.specs.declared.values.Value.{Value}
use Rattle.lf_format.specs.Lines.{IsReadable}
use Rattle.lf_format.specs.Shape.{Shape}
use Rattle.lf_format.specs.Size.{size_of}
use Rattle.lf_format.specs.declared.format.Piece.{Piece}
use Rattle.lf_compile.specs.Confused.{IsLeastConfused}
use Rattle.lf_compile.specs.Notes.{HasNote, IsLeastNote}
use Rattle.lf_limits.specs.Limits.{most_size}
use Rattle.lf_compile.specs.declared.refused.Confusion.{Confusion}
use Rattle.lf_compile.specs.declared.refused.Refused.{Refused}
use Rattle.lf_compile.specs.declared.refused.Refused.TheVariants.{TooLarge, Hash, Ambiguous, OutOfMemory}

-- Where lines that begin with `#` are notes, no record has such a line.
abbrev pub HasNoNote : Shape → Type 0
HasNoNote format = format.notes ≡ true → HasNote format.pieces → ⊥

-- The format is within the size, no record's line is a note, and no two different records print one line.
pub record IsAccepted (format : Shape) : Type 0 where
  pub within : size_of format.pieces ≤ most_size
  pub apart : HasNoNote format
  pub readable : IsReadable format.pieces

-- The format has this size, which is over the limit.
pub record IsTooLarge (format : Shape) (size : ℕ) : Type 0 where
  pub is : size ≡ size_of format.pieces
  pub over : most_size < size

-- The format is within the size, and the record is the least of the least note that is a record's line.
pub record IsRefusedNote (format : Shape) (rec : List Value) : Type 0 where
  pub within : size_of format.pieces ≤ most_size
  pub notes : format.notes ≡ true
  pub least : IsLeastNote format.pieces rec

-- The format is within the size, no record's line is a note, and the line is the least confused one, with its two least records.
pub record IsRefusedConfusion (format : Shape) (confusion : Confusion) : Type 0 where
  pub within : size_of format.pieces ≤ most_size
  pub apart : HasNoNote format
  pub least : IsLeastConfused format.pieces confusion.line confusion.first confusion.second

-- The format is refused for this cause.
abbrev pub IsCauseOf : Shape → Refused → Type 0
IsCauseOf format (TooLarge size) = IsTooLarge format size
IsCauseOf format (Hash rec) = IsRefusedNote format rec
IsCauseOf format (Ambiguous confusion) = IsRefusedConfusion format confusion
IsCauseOf format OutOfMemory = Unit {0}

-- The answer for the format, where memory doesn't run out: a cause to refuse it, or none.
abbrev pub IsAnswer : Shape → Option Refused → Type 0
IsAnswer format None = IsAccepted format
IsAnswer format (Some cause) = IsCauseOf format cause × (cause ≢ OutOfMemory)

-- The machine is that of the format, which is accepted.
pub record IsReader (format : Shape) (machine : List Piece) : Type 0 where
  pub same : machine ≡ format.pieces
  pub accepted : IsAccepted format
