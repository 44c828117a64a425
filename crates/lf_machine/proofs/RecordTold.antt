-- What the moves of a record's run tell.
use Rattle.std.proofs.Common.{◌≡◌, ℕ, suc, ◌+◌, ◌<◌, List, [], ◌∷◌, ◌++◌, length, take, drop, true, false, map, nat_le, refl, sym, ap, subst, ◌∙◌, arith, append_assoc}
use Rattle.std.specs.List.{take_while, prefix_len}
use Rattle.std.proofs.lemmas.Bool.Decides.{nat_tests}
use Rattle.std.proofs.lemmas.List.Folds.{length-prefix_len}
use Rattle.lf_core.specs.declared.marked.Move.{Move}
use Rattle.lf_core.specs.declared.values.Value.{Value}
use Rattle.lf_format.specs.Keeps.{EachKept}
use Rattle.lf_format.specs.Lines.{IsRecordOf, line_text}
use Rattle.lf_format.specs.declared.slot.Slot.{Slot as ASlot}
use Rattle.lf_format.specs.declared.format.Piece.{Piece}
use Rattle.lf_format.specs.declared.format.Piece.TheVariants.{Literal, Slot}
use Rattle.lf_machine.specs.Decoding.{IsOfValue, IsOfRecord}
use Rattle.lf_machine.specs.LineMachine.{line_machine, line_marks, line_number, record_moves}
use Rattle.lf_machine.specs.Literal.{literal_run}
use Rattle.lf_machine.specs.Numbered.{numbered}
use Rattle.lf_machine.specs.Parts.{late, joined}
use Rattle.lf_machine.specs.Paths.{Step}
use Rattle.lf_machine.proofs.PieceOrder.{PieceLess, all-ordered}
use Rattle.lf_machine.specs.Pieces.{slot_run, piece_row}
use Rattle.lf_machine.specs.Records.{LineState, record_steps, spread}
use Rattle.lf_machine.proofs.RecordLaws.{spread-filled}
use Rattle.lf_machine.specs.Rows.{marks_of}
use Rattle.lf_machine.proofs.RowRuns.{row-below}
use Rattle.lf_machine.specs.Runs.{HasRuns, IsRecordOfRun}
use Rattle.lf_machine.specs.Unquoted.{Within, marks_in}
use Rattle.lf_machine.proofs.ToldLaws.{raised, move_marks}
use Rattle.lf_machine.proofs.Joins.{AllLow}

abbrev AllUnder : ℕ → List ℕ → Type 0
AllUnder above [] = Unit {0}
AllUnder above (k ∷ ks) = (k < above) × AllUnder above ks

-- how many of the moves stand before the later ones
front-count : (above : ℕ) (moves : List Move) (own later : List ℕ) → move_marks moves ≡ raised above own ++ later → AllUnder above later → prefix_len (λ m. nat_le above m.mark) moves ≡ length own
front-count above [] [] later e u = refl
front-count above [] (k ∷ own) later e u = cc
front-count above (m ∷ moves) [] [] e u = cc
front-count above (m ∷ moves) [] (k ∷ later) e u =
    let h : m.mark ≡ k = cc in
    let t : nat_le above m.mark ≡ false = grind (arith, nat_tests, h, u.0) in
    rw t refl
front-count above (m ∷ moves) (k ∷ own) later e u =
    let h : m.mark ≡ above + k = cc in
    let r : move_marks moves ≡ raised above own ++ later = cc in
    let t : nat_le above m.mark ≡ true = grind (arith, nat_tests, h) in
    let n = front-count above moves own later r u in
    rw t (ap (λ (x : ℕ). 1 + x) n ∙ omega arith)

-- the moves, cut there
cut : (moves : List Move) (own later : List ℕ) → move_marks moves ≡ own ++ later → (move_marks (take (length own) moves) ≡ own) × (move_marks (drop (length own) moves) ≡ later)
cut moves [] later e = (refl, e)
cut [] (k ∷ own) later e = cc
cut (m ∷ moves) (k ∷ own) later e =
    let h : m.mark ≡ k = cc in
    let t : move_marks moves ≡ own ++ later = cc in
    let r = cut moves own later t in
    let x : move_marks (take (length own) moves) ≡ own = r.0 in
    (cc, r.1)

length-raised : (above : ℕ) (ks : List ℕ) → length (raised above ks) ≡ length ks
length-raised above [] = refl
length-raised above (k ∷ ks) = ap (λ (n : ℕ). suc n) (length-raised above ks)

pub record IsCut (above : ℕ) (moves front back : List Move) (own later : List ℕ) : Type 0 where
  pub first : move_marks front ≡ raised above own
  pub rest : move_marks back ≡ later

pub cut-at : (above n : ℕ) (moves front back : List Move) (own later : List ℕ) → move_marks moves ≡ raised above own ++ later → AllUnder above later →
    n ≡ length (take_while (λ m. nat_le above m.mark) moves) → front ≡ take n moves → back ≡ drop n moves → IsCut above moves front back own later
cut-at above n moves front back own later e u is f b =
    let k : n ≡ length (raised above own) = is ∙ length-prefix_len (λ m. nat_le above m.mark) moves ∙ front-count above moves own later e u ∙ sym (length-raised above own) in
    let r = cut moves (raised above own) later e in
    record {
      first = ap move_marks (f ∙ ap (λ (i : ℕ). take i moves) k) ∙ r.0;
      rest = ap move_marks (b ∙ ap (λ (i : ℕ). drop i moves) k) ∙ r.1;
    }

under-marks : {T : Type 0} (above : ℕ) (run : List (Step T)) → AllLow above run → AllUnder above (marks_in run)
under-marks above [] h = tt
under-marks above (m ∷ run) h = (h.0, under-marks above run h.1)

late-marks : (ps : List Piece) (run : List (Step (LineState ps))) → marks_in (map (late {S = Within}) run) ≡ marks_in run
late-marks ps [] = refl
late-marks ps (m ∷ run) = ap (λ (x : List ℕ). m.mark ∷ x) (late-marks ps run)

-- the marks of a run are those of the first piece, raised, and then those of the others
joined-marks : (p : Piece) (ps : List Piece) (above : ℕ) (own : List (Step Within)) (later : List (Step (LineState ps))) →
    marks_in (joined above own later) ≡ raised above (marks_in own) ++ marks_in later
joined-marks p ps above [] later = late-marks ps later
joined-marks p ps above (m ∷ own) later = ap (λ (x : List ℕ). (above + m.mark) ∷ x) (joined-marks p ps above own later)

later-under : (ps : List Piece) (above : ℕ) (rec : List Value) → above ≡ line_marks ps → EachKept ps → IsRecordOf ps rec → AllUnder above (marks_in (record_steps ps rec))
later-under ps above rec e k h =
    let low = row-below piece_row PieceLess ps (all-ordered ps k) (spread ps rec) (spread-filled ps rec h) in
    subst (λ (n : ℕ). AllUnder n (marks_in (record_steps ps rec))) (sym e) (under-marks (marks_of piece_row ps) (record_steps ps rec) low)

-- the first piece's marks, raised, and then the others'
first-marks : (p : Piece) (ps : List Piece) (above : ℕ) (own : List (Step Within)) (rec : List Value) (moves : List Move) → above ≡ line_marks ps →
    move_marks moves ≡ marks_in (joined (marks_of piece_row ps) own (record_steps ps rec)) →
    move_marks moves ≡ raised above (marks_in own) ++ marks_in (record_steps ps rec)
first-marks p ps above own rec moves e h =
    h ∙ joined-marks p ps (marks_of piece_row ps) own (record_steps ps rec)
    ∙ ap (λ (n : ℕ). raised n (marks_in own) ++ marks_in (record_steps ps rec)) (sym e)

-- What is known where the moves are cut before those of the later pieces.
pub record IsFirstCut (parts : List Piece) (p : Piece) (ps : List Piece) (above : ℕ) (moves front back : List Move) : Type 0 where
  pub whole : parts ≡ p ∷ ps
  pub raised_by : above ≡ line_marks ps
  pub first : front ≡ take (length (take_while (λ m. nat_le above m.mark) moves)) moves
  pub rest : back ≡ drop (length (take_while (λ m. nat_le above m.mark) moves)) moves

pub first-cut : (parts ps : List Piece) (p : Piece) (above n : ℕ) (moves front back : List Move) → parts ≡ p ∷ ps → above ≡ line_marks ps → n ≡ length (take_while (λ m. nat_le above m.mark) moves) → front ≡ take n moves → back ≡ drop n moves → IsFirstCut parts p ps above moves front back
first-cut parts ps p above n moves front back w e is f b = record {
  whole = w;
  raised_by = e;
  first = f ∙ ap (λ (i : ℕ). take i moves) is;
  rest = b ∙ ap (λ (i : ℕ). drop i moves) is;
}

literal-back : (text : List ℕ) (ps : List Piece) (above : ℕ) (moves front back : List Move) (rec : List Value) → above ≡ line_marks ps →
    front ≡ take (length (take_while (λ m. nat_le above m.mark) moves)) moves → back ≡ drop (length (take_while (λ m. nat_le above m.mark) moves)) moves →
    IsOfRecord (Literal text ∷ ps) moves rec → IsOfRecord ps back rec
literal-back text ps above moves front back rec e f b is =
    let marks = first-marks (Literal text) ps above (literal_run text) rec moves e is.marks in
    let r = cut-at above (length (take_while (λ m. nat_le above m.mark) moves)) moves front back (marks_in (literal_run text)) (marks_in (record_steps ps rec)) marks
    (later-under ps above rec e is.kept.1 is.held) refl f b in
    record { kept = is.kept.1; held = is.held; marks = r.rest }

-- behind a literal's moves are those of the same record
pub after-literal : (parts ps : List Piece) (p : Piece) (text : List ℕ) (above : ℕ) (moves front back : List Move) (rec : List Value) → IsFirstCut parts p ps above moves front back → p ≡ Literal text → IsOfRecord parts moves rec → IsOfRecord ps back rec
after-literal parts ps p text above moves front back rec c e is =
    literal-back text ps above moves front back rec c.raised_by c.first c.rest
    (subst (λ (xs : List Piece). IsOfRecord xs moves rec) (c.whole ∙ ap (λ (x : Piece). x ∷ ps) e) is)

-- A slot's moves are those of the record's first value, and behind them are those of the others.
pub record IsCutAtValue (s : ASlot) (ps : List Piece) (above : ℕ) (front back : List Move) (rec : List Value) : Type 0 where
  pub v : Value
  pub others : List Value
  pub same : rec ≡ v ∷ others
  pub own : IsOfValue s above front v
  pub later : IsOfRecord ps back others

slot-back : (s : ASlot) (ps : List Piece) (above : ℕ) (moves front back : List Move) (rec : List Value) → above ≡ line_marks ps →
    front ≡ take (length (take_while (λ m. nat_le above m.mark) moves)) moves → back ≡ drop (length (take_while (λ m. nat_le above m.mark) moves)) moves →
    IsOfRecord (Slot s ∷ ps) moves rec → IsCutAtValue s ps above front back rec
slot-back s ps above moves front back [] e f b is = absurd is.held
slot-back s ps above moves front back (v ∷ rec) e f b is =
    let marks = first-marks (Slot s) ps above (slot_run s.quoted s v) rec moves e is.marks in
    let r = cut-at above (length (take_while (λ m. nat_le above m.mark) moves)) moves front back (marks_in (slot_run s.quoted s v)) (marks_in (record_steps ps rec)) marks
    (later-under ps above rec e is.kept.1 is.held.1) refl f b in
    record {
      v = v;
      others = rec;
      same = refl;
      own = record { kept = is.kept.0; held = is.held.0; marks = r.first };
      later = record { kept = is.kept.1; held = is.held.1; marks = r.rest };
    }

pub after-slot : (parts ps : List Piece) (p : Piece) (s : ASlot) (above : ℕ) (moves front back : List Move) (rec : List Value) → IsFirstCut parts p ps above moves front back → p ≡ Slot s → IsOfRecord parts moves rec → IsCutAtValue s ps above front back rec
after-slot parts ps p s above moves front back rec c e is =
    slot-back s ps above moves front back rec c.raised_by c.first c.rest
    (subst (λ (xs : List Piece). IsOfRecord xs moves rec) (c.whole ∙ ap (λ (x : Piece). x ∷ ps) e) is)

-- a value, and behind it the others
pub value-first : (old mid new : List Value) (v w : Value) (rec others : List Value) → mid ≡ old ++ w ∷ [] → w ≡ v → new ≡ mid ++ others → rec ≡ v ∷ others → new ≡ old ++ rec
value-first old mid new v w rec others m e n r =
    n ∙ ap (λ (xs : List Value). xs ++ others) (m ∙ ap (λ (x : Value). old ++ x ∷ []) e)
    ∙ append_assoc old (v ∷ []) others ∙ ap (λ (xs : List Value). old ++ xs) (sym r)

numbered-marks : (ps : List Piece) (steps : List (Step (LineState ps))) → move_marks (map (numbered (line_number ps)) steps) ≡ marks_in steps
numbered-marks ps [] = refl
numbered-marks ps (m ∷ steps) = ap (λ (x : List ℕ). m.mark ∷ x) (numbered-marks ps steps)

-- the moves of a record's run are of the record
pub run-of_record : (ps : List Piece) (moves : List Move) (rec : List Value) → EachKept ps → IsRecordOf ps rec → moves ≡ record_moves ps rec → IsOfRecord ps moves rec
run-of_record ps moves rec k h e = record { kept = k; held = h; marks = ap move_marks e ∙ numbered-marks ps (record_steps ps rec) }

-- the record of a whole run
pub told-record : (ps : List Piece) (line : List ℕ) (moves : List Move) (rec got : List Value) → HasRuns ps (line_machine ps) (record_moves ps) → IsRecordOf ps rec → moves ≡ record_moves ps rec → got ≡ rec → IsRecordOfRun ps (line_machine ps) (record_moves ps) moves got
told-record ps line moves rec got runs h e same =
    subst (λ (r : List Value). IsRecordOfRun ps (line_machine ps) (record_moves ps) moves r) (sym same)
    (record {
      held = h;
      same = sym e;
      prints = λ other w.
          let f = runs.no_other other moves w in
          let z : rec ≡ f.0 = runs.apart rec f.0 h f.1 (sym e ∙ f.3) in
          ap (line_text ps) z ∙ sym f.2;
    })
