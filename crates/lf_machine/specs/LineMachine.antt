-- The marked machine of a format, and what it keeps.
use Rattle.std.proofs.Common.{◌≡◌, ℕ, ◌+◌, ◌<◌, ◌≤◌, inl, inr, List, map, Bool, true, false, cond, ◌==◌, ap, subst, arith, Contains}
use Rattle.std.proofs.lemmas.Bool.Decides.{leb_tells}
use Rattle.std.proofs.lemmas.List.Elements.{All-contains_itself}
use Rattle.std.proofs.lemmas.Bool.{ne_eqb}
use Rattle.lf_core.specs.Marked.{Machine, IsMachine}
use Rattle.lf_core.specs.declared.marked.Move.{Move}
use Rattle.lf_core.specs.declared.values.Value.{Value}
use Rattle.lf_format.specs.declared.format.Piece.{Piece}
use Rattle.lf_machine.specs.Paths.{Step}
use Rattle.lf_machine.specs.OnBytes.{on_bytes, on_bytes-is_machine}
use Rattle.lf_machine.specs.Lists.{Rises, rises-once, rises-either}
use Rattle.lf_machine.specs.Numbered.{numbered, IsNumbered}
use Rattle.lf_machine.specs.RowMoves.{all_points, row_enter, row_moves, row_empty, row_done, row-rises_into, row-rises}
use Rattle.lf_machine.specs.RowNumbers.{row_number, RowAt, RowValid, row-above, row-below, row-at, row-only, row-covers, row-enters, row-entered, row-goes, row-gone, row-bare, row-bared, row-ends, row-ended}
use Rattle.lf_machine.specs.Pieces.{piece_row}
use Rattle.lf_machine.specs.PieceNumbers.{all-numbered, all-rise, piece_numbering}
use Rattle.lf_machine.specs.Records.{LineState, record_steps, line_part}
use Rattle.lf_machine.specs.Rows.{marks_of}

-- how many points the pieces have
abbrev pub line_points : List Piece → ℕ
line_points = all_points piece_row piece_numbering

-- how many marks the moves of the pieces have
abbrev pub line_marks : List Piece → ℕ
line_marks = marks_of piece_row

-- the moves into the pieces, whose points begin at a base
abbrev pub line_enter : List Piece → ℕ → ℕ → List Move
line_enter = row_enter piece_row piece_numbering

-- the moves from a point of the pieces
abbrev pub line_moves : List Piece → ℕ → ℕ → ℕ → List Move
line_moves = row_moves piece_row piece_numbering

-- whether the pieces may print nothing
abbrev pub line_empty : List Piece → Bool
line_empty = row_empty piece_row piece_numbering

-- whether the line may stop at a point
abbrev pub line_done : List Piece → ℕ → ℕ → Bool
line_done = row_done piece_row piece_numbering

-- point 0 is before the line, and then each piece has its points; moves may also stand on numbers that are no bytes
abbrev pub wide_machine : List Piece → Machine
wide_machine pieces = record {
  count = line_points pieces + 1;
  first = 0;
  moves = λ point byte. cond (point == 0) (line_enter pieces 1 byte) (line_moves pieces 1 point byte);
  is_end = λ point. cond (point == 0) (line_empty pieces) (line_done pieces 1 point);
}

-- The machine of a format: point 0 is before the line, and then each piece has its points.
abbrev pub line_machine : List Piece → Machine
line_machine pieces = on_bytes (wide_machine pieces)

-- the number of a state of the line
abbrev pub line_number : (ps : List Piece) → LineState ps → ℕ
line_number ps = row_number piece_row piece_numbering ps 1

-- the point is the state's
abbrev pub LineAt : (ps : List Piece) → ℕ → LineState ps → Type 0
LineAt ps n s = RowAt piece_row piece_numbering ps 1 n s

-- the run of a record: the moves over its line
abbrev pub record_moves : List Piece → List Value → List Move
record_moves ps rec = map (numbered (line_number ps)) (record_steps ps rec)

abbrev LineNumbered : List Piece → Type 0
LineNumbered ps = IsNumbered (line_part ps) (wide_machine ps) (line_number ps) (LineAt ps)

above-first : (ps : List Piece) (n : ℕ) (s : LineState ps) → LineAt ps n s → (n == 0) ≡ false
above-first ps n s h = let f : 1 ≤ n = row-above piece_row piece_numbering ps 1 n s h in ne_eqb n 0 (λ e. omega arith)

at-valid : (ps : List Piece) (s : LineState ps) → RowValid piece_row piece_numbering ps s → LineAt ps (line_number ps s) s
at-valid ps s v = row-at piece_row piece_numbering ps (all-numbered ps) 1 s v

pub line-numbered : (ps : List Piece) → LineNumbered ps
line-numbered ps = record {
  only = λ n s t h g. row-only piece_row piece_numbering ps 1 n s t h g;
  enters = λ byte m h. let r = row-enters piece_row piece_numbering ps (all-numbered ps) 1 byte m h in (r.0, r.1, at-valid ps r.0.to r.2, r.3);
  entered = λ byte a h. let r = row-entered piece_row piece_numbering ps (all-numbered ps) 1 byte a h in (at-valid ps a.to r.0, r.1);
  goes = λ n s byte m a h.
      let z = above-first ps n s a in
      let c : Contains (line_moves ps 1 n byte) m = rw z at h in
      let r = row-goes piece_row piece_numbering ps (all-numbered ps) 1 n s byte m a c in (r.0, r.1, at-valid ps r.0.to r.2, r.3);
  gone = λ n s byte k a h.
      let z = above-first ps n s a in
      let r = row-gone piece_row piece_numbering ps (all-numbered ps) 1 n s byte k a h in (at-valid ps k.to r.0, rw z r.1);
  ends = λ n s a h.
      let z = above-first ps n s a in
      let c : (line_done ps 1 n ≡ true) = rw z at h in
      row-ends piece_row piece_numbering ps (all-numbered ps) 1 n s a c;
  ended = λ n s a h.
      let z = above-first ps n s a in
      rw z (row-ended piece_row piece_numbering ps (all-numbered ps) 1 n s a h);
  ends_empty = λ h. row-bare piece_row piece_numbering ps (all-numbered ps) h;
  ended_empty = λ h. row-bared piece_row piece_numbering ps (all-numbered ps) h;
}

pub line-rises : (ps : List Piece) (point byte : ℕ) → Rises 0 (line_marks ps) ((wide_machine ps).moves point byte)
line-rises ps point byte = rises-either (point == 0) 0 (line_marks ps) (line_enter ps 1 byte) (line_moves ps 1 point byte) (row-rises_into piece_row piece_numbering ps (all-rise ps) 1 byte) (row-rises piece_row piece_numbering ps (all-rise ps) 1 point byte)

to-below : (ps : List Piece) (m : Move) (a : Step (LineState ps)) → LineAt ps (line_number ps a.to) a.to → m ≡ numbered (line_number ps) a → m.to < line_points ps + 1
to-below ps m a h e =
    let b = row-below piece_row piece_numbering ps 1 (line_number ps a.to) a.to h in
    let t : m.to ≡ line_number ps a.to = ap (λ (x : Move). x.to) e in
    omega (arith, b, t)

move-below : (ps : List Piece) (point byte : ℕ) (m : Move) → point < line_points ps + 1 → Contains ((wide_machine ps).moves point byte) m → m.to < line_points ps + 1
move-below ps point byte m l h =
    elim (leb_tells 1 point) [
      | inl k ↦
          let s = row-covers piece_row piece_numbering ps 1 point k.1 (omega arith) in
          let r = (line-numbered ps).goes point s.0 byte m s.1 h in
          to-below ps m r.0 r.2 r.3
      | inr k ↦
          let z : point ≡ 0 = omega (arith, k.1) in
          let c : Contains ((wide_machine ps).moves 0 byte) m = subst (λ (n : ℕ). Contains ((wide_machine ps).moves n byte) m) z h in
          let r = (line-numbered ps).enters byte m c in
          to-below ps m r.0 r.2 r.3
    ]

-- the laws of marked machines
pub line-marked : (ps : List Piece) → IsMachine (line_machine ps)
line-marked ps =
    on_bytes-is_machine (wide_machine ps) (omega arith)
    (λ point byte h. rises-once 0 (line_marks ps) ((wide_machine ps).moves point byte) (line-rises ps point byte))
    (λ point byte h. λ k d l. move-below ps point byte _ h (All-contains_itself ((wide_machine ps).moves point byte) k d l))
