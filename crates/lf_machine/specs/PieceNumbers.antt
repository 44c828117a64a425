-- A piece of a format by numbers: its points, and the moves from each.
use Rattle.std.proofs.Common.{ℕ, ◌+◌, ◌*◌, inl, inr, List, [], ◌∷◌, ◌++◌, length, Bool, true, false, ◌==◌}
use Rattle.lf_core.specs.Domain.{IsDomain}
use Rattle.lf_core.specs.declared.marked.Move.{Move}
use Rattle.lf_escape.specs.Codes.{IsCode}
use Rattle.lf_escape.specs.Codings.{coding_takes, coding_word, coding_laws}
use Rattle.lf_format.specs.Kinds.{HoldsKind, plain_text, kind_machine, kind_size, kind_laws}
use Rattle.lf_format.specs.declared.slot.Slot.{Slot as ASlot}
use Rattle.lf_format.specs.declared.format.Piece.{Piece}
use Rattle.lf_format.specs.declared.format.Piece.TheVariants.{Literal, Slot}
use Rattle.lf_machine.specs.Unquoted.{Within}
use Rattle.lf_code_table.specs.Prefixes.{table-root, table-prefix, prefix-table}
use Rattle.lf_machine.specs.RowNumbers.{IsPart, AllParts}
use Rattle.lf_machine.specs.RowMoves.{PartRises, AllRise, Numbering}
use Rattle.lf_machine.specs.SlotMoves.{IsLaid, is_nil}
use Rattle.lf_machine.specs.Pieces.{machine_of, piece_row}
use Rattle.lf_code_table.specs.Table.{table_of}
use Rattle.lf_machine.specs.PlainNumbers.{plain_number, PlainValid, plain_state, plain_enter, plain_moves, plain_done, plain_empty, plain-enter_rises, plain-moves_rise, plain-range, plain-back, plain-enters, plain-entered, plain-goes, plain-gone, plain-ends, plain-ended, plain-bare, plain-bared}
use Rattle.lf_machine.specs.FramedNumbers.{framed_number, FramedValid, framed_state, framed_enter, framed_moves, framed_done, framed-enter_rises, framed-moves_rise, framed-range, framed-back, framed-enters, framed-entered, framed-goes, framed-gone, framed-ends, framed-ended}
use Rattle.lf_machine.specs.LiteralNumbers.{literal_at, literal_number, LiteralValid, literal_state, literal-range, literal-back, literal-goes, literal-gone, literal-rises, literal-ends, literal-ended, literal-bare, literal-bared}
use Rattle.lf_machine.specs.Lists.{never-nil}

pub laid : (s : ASlot) → IsLaid (machine_of s)
laid s =
    let k : IsDomain (HoldsKind s.kind) (plain_text s.kind) (kind_machine s.kind) (kind_size s.kind) = kind_laws s.kind in
    let c : IsCode (coding_takes s.code) (coding_word s.code) = coding_laws s.code in
    record {
      root = table-root (coding_takes s.code) (coding_word s.code) 256;
      fronts = λ read b j h. elim (table-prefix (coding_takes s.code) (coding_word s.code) 256 (read ++ b ∷ []) (j, h)) [ inl e ↦ absurd (never-nil read b e) | inr f ↦ f ];
      front = λ text post l x t e. prefix-table (coding_takes s.code) (coding_word s.code) 256 l x text post (c.bytes l t) t e;
      bytes = c.bytes;
      begins = k.begins;
      stays = λ q l t h e. (k.stays q l t h e).1;
    }

-- a slot's part of the machine, without and with quotes
abbrev pub slot_count : Bool → ASlot → ℕ
slot_count false s = (kind_machine s.kind).count * length (table_of s.code) + 2
slot_count true s = (kind_machine s.kind).count * length (table_of s.code) + 3

-- the number of a state of a slot
abbrev pub slot_number : Bool → ASlot → Within → ℕ
slot_number false s = plain_number (machine_of s)
slot_number true s = framed_number (machine_of s)

-- the states that have a number
abbrev pub SlotValid : Bool → ASlot → Within → Type 0
SlotValid false s = PlainValid (machine_of s)
SlotValid true s = FramedValid (machine_of s)

-- the state of a number
abbrev pub slot_state : Bool → ASlot → ℕ → Within
slot_state false s = plain_state (machine_of s)
slot_state true s = framed_state (machine_of s)

-- the moves into a slot
abbrev pub slot_enters : Bool → ASlot → ℕ → List Move
slot_enters false s = plain_enter (machine_of s)
slot_enters true s = framed_enter (machine_of s)

-- the moves from a point of a slot
abbrev pub slot_moves : Bool → ASlot → ℕ → ℕ → List Move
slot_moves false s = plain_moves (machine_of s)
slot_moves true s = framed_moves (machine_of s)

-- whether a slot may end at a point
abbrev pub slot_is_done : Bool → ASlot → ℕ → Bool
slot_is_done false s = plain_done (machine_of s)
slot_is_done true s = framed_done (machine_of s)

-- whether a slot may print nothing, or nothing between its quotes
abbrev pub slot_bare : ASlot → Bool
slot_bare s = plain_empty (machine_of s)

-- whether a slot may print nothing
abbrev pub slot_is_empty : Bool → ASlot → Bool
slot_is_empty false s = slot_bare s
slot_is_empty true s = false

-- how many points a piece has
abbrev pub piece_count : Piece → ℕ
piece_count (Literal bytes) = length bytes
piece_count (Slot s) = slot_count s.quoted s

-- the moves into a piece
abbrev pub piece_enters : Piece → ℕ → List Move
piece_enters (Literal bytes) byte = literal_at bytes 0 byte
piece_enters (Slot s) byte = slot_enters s.quoted s byte

-- the moves from a point of a piece
abbrev pub piece_moves : Piece → ℕ → ℕ → List Move
piece_moves (Literal bytes) point byte = literal_at bytes (point + 1) byte
piece_moves (Slot s) point byte = slot_moves s.quoted s point byte

-- whether a piece may end at a point
abbrev pub piece_is_done : Piece → ℕ → Bool
piece_is_done (Literal bytes) point = point + 1 == length bytes
piece_is_done (Slot s) point = slot_is_done s.quoted s point

-- whether a piece may print nothing
abbrev pub piece_is_empty : Piece → Bool
piece_is_empty (Literal bytes) = is_nil bytes
piece_is_empty (Slot s) = slot_is_empty s.quoted s

-- the number of a state of a piece
abbrev pub piece_number : Piece → Within → ℕ
piece_number (Literal bytes) = literal_number bytes
piece_number (Slot s) = slot_number s.quoted s

-- the state of a number
abbrev pub piece_state : Piece → ℕ → Within
piece_state (Literal bytes) = literal_state bytes
piece_state (Slot s) = slot_state s.quoted s

-- the states that have a number
abbrev pub PieceValid : Piece → Within → Type 0
PieceValid (Literal bytes) = LiteralValid bytes
PieceValid (Slot s) = SlotValid s.quoted s

-- the points of pieces
abbrev pub piece_numbering : Numbering Piece Within
piece_numbering = record {
  count = piece_count;
  enters = piece_enters;
  moves = piece_moves;
  is_done = piece_is_done;
  is_empty = piece_is_empty;
  number = piece_number;
  state = piece_state;
  Valid = PieceValid;
}

-- the piece's moves are its steps, by numbers
abbrev pub Numbered : Piece → Type 0
Numbered p = IsPart piece_row piece_numbering p

literal-numbered : (bytes : List ℕ) → Numbered (Literal bytes)
literal-numbered bytes = record {
  range = literal-range bytes;
  back = literal-back bytes;
  enters_by = λ byte m h. literal-goes bytes 0 byte m h;
  entered = λ byte a h. literal-gone bytes 0 byte a h;
  goes = λ n byte m l h. literal-goes bytes (n + 1) byte m h;
  gone = λ n byte a l h. literal-gone bytes (n + 1) byte a h;
  ends = literal-ends bytes;
  ended = literal-ended bytes;
  bare = literal-bare bytes;
  bared = literal-bared bytes;
}

slot-numbered : (quoted : Bool) (s : ASlot) → Numbered (Slot (record s { quoted = quoted }))
slot-numbered false s = record {
  range = plain-range (machine_of s) (laid s);
  back = plain-back (machine_of s) (laid s);
  enters_by = plain-enters (machine_of s) (laid s);
  entered = plain-entered (machine_of s) (laid s);
  goes = plain-goes (machine_of s) (laid s);
  gone = plain-gone (machine_of s) (laid s);
  ends = plain-ends (machine_of s) (laid s);
  ended = plain-ended (machine_of s) (laid s);
  bare = plain-bare (machine_of s);
  bared = plain-bared (machine_of s);
}
slot-numbered true s = record {
  range = framed-range (machine_of s) (laid s);
  back = framed-back (machine_of s) (laid s);
  enters_by = framed-enters (machine_of s) (laid s);
  entered = framed-entered (machine_of s) (laid s);
  goes = framed-goes (machine_of s) (laid s);
  gone = framed-gone (machine_of s) (laid s);
  ends = framed-ends (machine_of s) (laid s);
  ended = framed-ended (machine_of s) (laid s);
  bare = λ h. cc;
  bared = λ h. absurd h;
}

pub piece-numbered : (p : Piece) → Numbered p
piece-numbered (Literal bytes) = literal-numbered bytes
piece-numbered (Slot s) = slot-numbered s.quoted s

pub all-numbered : (ps : List Piece) → AllParts piece_row piece_numbering ps
all-numbered [] = tt
all-numbered (p ∷ ps) = (piece-numbered p, all-numbered ps)

-- the marks of the piece's moves rise
abbrev pub PieceRises : Piece → Type 0
PieceRises p = PartRises piece_row piece_numbering p

slot-rises : (quoted : Bool) (s : ASlot) → PieceRises (Slot (record s { quoted = quoted }))
slot-rises false s = record { into = plain-enter_rises (machine_of s); at = plain-moves_rise (machine_of s) }
slot-rises true s = record { into = framed-enter_rises (machine_of s); at = framed-moves_rise (machine_of s) }

pub piece-rises : (p : Piece) → PieceRises p
piece-rises (Literal bytes) = record { into = λ byte. literal-rises bytes 0 byte; at = λ n byte. literal-rises bytes (n + 1) byte }
piece-rises (Slot s) = slot-rises s.quoted s

pub all-rise : (ps : List Piece) → AllRise piece_row piece_numbering ps
all-rise [] = tt
all-rise (p ∷ ps) = (piece-rises p, all-rise ps)
