-- The pieces of a format as parts of a line: their states, steps and runs.
use Rattle.std.proofs.Common.{◌≡◌, ℕ, ◌≤◌, List, [], ◌∷◌, length, Bool, true, false, cond, refl, arith}
use Rattle.lf_core.specs.declared.values.Value.{Value}
use Rattle.lf_core.specs.declared.values.Value.TheVariants.{Missing}
use Rattle.lf_escape.specs.Codes.{IsCode}
use Rattle.lf_escape.specs.Codings.{coding_takes, coding_word, coding_laws}
use Rattle.lf_format.specs.Kinds.{plain_text, kind_machine}
use Rattle.lf_format.specs.Slots.{Holds, slot_text}
use Rattle.lf_format.specs.declared.kind.Kind.{Kind}
use Rattle.lf_escape.specs.declared.coding.Coding.{Coding}
use Rattle.lf_format.specs.declared.slot.Slot.{Slot as ASlot}
use Rattle.lf_format.specs.declared.slot.Absent.{Absent}
use Rattle.lf_format.specs.declared.slot.Absent.TheVariants.{No, Dash, DashTwo, Blank}
use Rattle.lf_format.specs.declared.format.Piece.{Piece}
use Rattle.lf_format.specs.declared.format.Piece.TheVariants.{Literal, Slot}
use Rattle.lf_machine.specs.Paths.{Step}
use Rattle.lf_machine.specs.SlotMachine.{SlotMachine}
use Rattle.lf_code_table.specs.Table.{table_of}
use Rattle.lf_machine.specs.Unquoted.{Said, nothing, letters, Within, said_run, plain_part}
use Rattle.lf_machine.specs.Quoted.{quoted_run, framed_part}
use Rattle.lf_machine.specs.Literal.{literal_run, literal_part}
use Rattle.lf_machine.specs.Rows.{Row}
use Rattle.lf_machine.specs.Parts.{Part}

-- absence prints a dash
abbrev pub is_dash : Absent → Bool
is_dash No = false
is_dash Dash = true
is_dash DashTwo = true
is_dash Blank = false

-- absence prints nothing
abbrev pub is_blank : Absent → Bool
is_blank No = false
is_blank Dash = false
is_blank DashTwo = false
is_blank Blank = true

-- no present value may print a lone dash
abbrev pub is_one : Absent → Bool
is_one No = false
is_one Dash = true
is_one DashTwo = false
is_one Blank = false

-- the slot holds absence, and prints a dash, or nothing, for it
abbrev pub dash_of : Absent → Bool → Bool
dash_of a present = cond present false (is_dash a)

-- the slot holds absence, and prints nothing for it
abbrev pub blank_of : Absent → Bool → Bool
blank_of a present = cond present false (is_blank a)

-- what a value says in its slot
abbrev pub said_of : Kind → Value → Said
said_of kind Missing = nothing
said_of kind v = letters (plain_text kind v)

first-byte : (w : List ℕ) → 1 ≤ length w → (b : ℕ) × (rest : List ℕ) × (w ≡ b ∷ rest)
first-byte [] h = absurd (omega arith)
first-byte (b ∷ rest) h = (b, rest, refl)

-- each word has a first byte
pub least_of : (code : Coding) → (c : ℕ) → coding_takes code c ≡ true → (b : ℕ) × (rest : List ℕ) × (coding_word code c ≡ b ∷ rest)
least_of code c h = let l : IsCode (coding_takes code) (coding_word code) = coding_laws code in first-byte (coding_word code c) (l.least c h)

-- what the part of a slot is made of
abbrev pub slot_machine : Kind → Coding → Absent → Bool → SlotMachine
slot_machine kind code absent present = record {
  takes = coding_takes code;
  word = coding_word code;
  least = least_of code;
  next = (kind_machine kind).next;
  ends = (kind_machine kind).is_end;
  first = (kind_machine kind).first;
  size = (kind_machine kind).count;
  table = table_of code;
  dash = dash_of absent present;
  blank = blank_of absent present;
  apart_dash = is_one absent;
  apart_blank = is_blank absent;
}

-- the part of a slot
abbrev pub machine_of : ASlot → SlotMachine
machine_of s = slot_machine s.kind s.code s.absent s.present

-- a slot as a part
abbrev pub slot_part : Bool → ASlot → Part Within
slot_part false s = plain_part (machine_of s)
slot_part true s = framed_part (machine_of s)

-- the run of a value in a slot
abbrev pub slot_run : Bool → ASlot → Value → List (Step Within)
slot_run false s v = said_run (machine_of s) (said_of s.kind v)
slot_run true s v = quoted_run (machine_of s) (said_of s.kind v)

-- a piece as a part of the line's machine
abbrev pub piece_part : Piece → Part Within
piece_part (Literal bytes) = literal_part bytes
piece_part (Slot s) = slot_part s.quoted s

-- how many marks a piece has: three, and one for each letter
abbrev pub piece_marks : Piece → ℕ
piece_marks piece = 259

-- a literal holds one value, the missing one
abbrev pub HoldsPiece : Piece → Value → Type 0
HoldsPiece (Literal bytes) v = v ≡ Missing
HoldsPiece (Slot s) v = Holds s v

-- the text of a piece
abbrev pub piece_text : Piece → Value → List ℕ
piece_text (Literal bytes) v = bytes
piece_text (Slot s) v = slot_text s v

-- the run of a value in a piece
abbrev pub piece_run : Piece → Value → List (Step Within)
piece_run (Literal bytes) v = literal_run bytes
piece_run (Slot s) v = slot_run s.quoted s v

-- the pieces as parts in a row
abbrev pub piece_row : Row Piece Within Value
piece_row = record {
  part = piece_part;
  marks = piece_marks;
  Holds = HoldsPiece;
  text = piece_text;
  run = piece_run;
}
