-- The states and steps of a whole line, and the run of a record.
use Rattle.std.proofs.Common.{ℕ, List, [], ◌∷◌}
use Rattle.lf_core.specs.declared.values.Value.{Value}
use Rattle.lf_core.specs.declared.values.Value.TheVariants.{Missing}
use Rattle.lf_format.specs.declared.format.Piece.{Piece}
use Rattle.lf_format.specs.declared.format.Piece.TheVariants.{Literal, Slot}
use Rattle.lf_machine.specs.Paths.{Step}
use Rattle.lf_machine.specs.Parts.{IsWhole, Part}
use Rattle.lf_machine.specs.Rows.{State, Filled, line, row_run, rest}
use Rattle.lf_machine.specs.Pieces.{piece_row}

-- the states of a line's machine
abbrev pub LineState : List Piece → Type 0
LineState = State piece_row

-- the line as a part
abbrev pub line_part : (ps : List Piece) → Part (LineState ps)
line_part = rest piece_row

-- one value for each piece, each of them held
abbrev pub LineFilled : List Piece → List Value → Type 0
LineFilled = Filled piece_row

-- the text of the values
abbrev pub pieces_text : List Piece → List Value → List ℕ
pieces_text = line piece_row

-- the run of the values
abbrev pub pieces_run : (ps : List Piece) → List Value → List (Step (LineState ps))
pieces_run = row_run piece_row

-- a value for each piece: a literal's is the missing one
abbrev pub spread : List Piece → List Value → List Value
spread [] rec = []
spread (Literal bytes ∷ ps) rec = Missing ∷ spread ps rec
spread (Slot s ∷ ps) [] = []
spread (Slot s ∷ ps) (v ∷ rec) = v ∷ spread ps rec

-- the run of a record
abbrev pub record_steps : (ps : List Piece) → List Value → List (Step (LineState ps))
record_steps ps rec = pieces_run ps (spread ps rec)

-- a whole run of a line over a text
abbrev pub IsWholeLine : (ps : List Piece) → List ℕ → List (Step (LineState ps)) → Type 0
IsWholeLine ps = IsWhole (line_part ps)
