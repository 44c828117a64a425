-- The next lines are marked, one after another.
use Rattle.std.proofs.Common.{◌≡◌, ℕ, zero, suc, ◌+◌, ◌-◌, ◌<◌, ◌≤◌, inl, inr, min, Bool, List, [], ◌∷◌, ◌++◌, Option, None, Some, length, take, refl, sym, ◌∙◌, ap, subst, arith, length-append, add-zero}
use Rattle.std.specs.Prelude.{slice_get, slice_set}
use Rattle.std.proofs.lemmas.Bool.{cases_lt}
use Rattle.std.proofs.lemmas.List.{take_more_set, length-take-le}
use Rattle.std.proofs.lemmas.Option.{slice_get_within}
use Rattle.lf_limits.specs.Limits.{least_room, most_marks}
use Rattle.lf_stream.specs.declared.lines.Lines.{Lines}
use Rattle.lf_stream.specs.declared.marks.Mark.{Mark}
use Rattle.lf_stream.specs.Cut.{known_lines}
use Rattle.lf_stream.specs.Marks.{IsNextMark, AreNextMarks}
use Rattle.lf_stream.specs.Standing.{Stands, MovesOn, room_of}
use Rattle.lf_stream.proofs.LineLaws.{Searched, stands_searched}

get_front : {X : Type 0} (xs ys : List X) (k : ℕ) → k < length xs → slice_get (xs ++ ys) k ≡ slice_get xs k
get_front [] ys k low = absurd (omega (arith, low))
get_front (x ∷ xs) ys zero low = refl
get_front (x ∷ xs) ys (suc k) low = get_front xs ys k (omega arith)

get_last : {X : Type 0} (xs : List X) (x : X) → slice_get (xs ++ x ∷ []) (length xs) ≡ Some x
get_last [] x = refl
get_last (y ∷ xs) x = get_last xs x

-- One more line is marked.
marks_more : (notes : Bool) (text : List ℕ) (lines : List (List ℕ)) (n : ℕ) (marks : List Mark) (mark : Mark) → AreNextMarks notes text lines n marks → IsNextMark notes text lines (n + length marks) (Some mark) → AreNextMarks notes text lines n (marks ++ mark ∷ [])
marks_more notes text lines n marks mark each here = λ k low.
    elim (cases_lt k (length marks)) [
      | inl lt ↦ subst (IsNextMark notes text lines (n + k)) (sym (get_front marks (mark ∷ []) k lt)) (each k lt)
      | inr ge ↦
          let e : length marks ≡ k = omega (arith, low, ge, length-append marks (mark ∷ [])) in
          let is : slice_get (marks ++ mark ∷ []) k ≡ Some mark = subst (λ j. slice_get (marks ++ mark ∷ []) j ≡ Some mark) e (get_last marks mark) in
          subst (IsNextMark notes text lines (n + k)) (sym is) (subst (λ j. IsNextMark notes text lines (n + j) (Some mark)) e here)
    ]

-- So many lines were marked.
pub record Marked (old now : Lines) (count : ℕ) : Type 0 where
  pub moves : MovesOn old now count
  pub bytes : now.buffer.bytes ≡ old.buffer.bytes
  pub marked : (stream : List ℕ) (n : ℕ) → Stands old stream n → AreNextMarks old.notes old.buffer.bytes.items (known_lines old.finished old.notes stream) n (take count now.marks.items)
  pub enough : (stream : List ℕ) (n : ℕ) → Stands old stream n → 0 < count → n + count ≤ length (known_lines old.finished old.notes stream)

pub marked_none : (l : Lines) → Marked l l 0
marked_none l = record {
  moves = record { same = record { notes = refl; finished = refl }; fed = refl; stands = λ stream n s. subst (Stands l stream) (sym (add-zero n)) s; room = omega arith };
  bytes = refl;
  marked = λ stream n s k low. absurd (omega (arith, low));
  enough = λ stream n s some. absurd (omega arith);
}

-- What the lines were when the marking began tells what comes next.
next_of : (old now : Lines) (stream : List ℕ) (count : ℕ) (text : List ℕ) (n : ℕ) (next : Option Mark) → MovesOn old now count → IsNextMark now.notes text (known_lines now.finished now.notes stream) n next → IsNextMark old.notes text (known_lines old.finished old.notes stream) n next
next_of old now stream count text n next m h =
    let notes = subst (λ b. IsNextMark b text (known_lines now.finished b stream) n next) m.same.notes h in
    subst (λ f. IsNextMark old.notes text (known_lines f old.notes stream) n next) m.same.finished notes

pub marked_more : (old now mid new : Lines) (count : ℕ) (mark : Mark) → Searched mid new → Marked old now count → count < length now.marks.items → MovesOn now mid 1 → mid.buffer.bytes ≡ now.buffer.bytes → mid.marks ≡ now.marks
    → ((stream : List ℕ) (n : ℕ) → Stands now stream n → IsNextMark now.notes mid.buffer.bytes.items (known_lines now.finished now.notes stream) n (Some mark))
    → new.buffer.bytes ≡ mid.buffer.bytes → new.marks.items ≡ slice_set mid.marks.items count mark → Marked old new (count + 1)
marked_more old now mid new count mark e h low m bytes marks next text set =
    let taken : take (count + 1) new.marks.items ≡ take count now.marks.items ++ mark ∷ [] =
    ap (take (count + 1)) (set ∙ ap (λ v. slice_set v.items count mark) marks) ∙ take_more_set now.marks.items count mark low in
    let many : length (take count now.marks.items) ≡ count = length-take-le count now.marks.items (omega (arith, low)) in
    let same : mid.buffer.bytes.items ≡ old.buffer.bytes.items = ap (λ v. v.items) (bytes ∙ h.bytes) in
    let here : (stream : List ℕ) (n : ℕ) → Stands old stream n → IsNextMark old.notes old.buffer.bytes.items (known_lines old.finished old.notes stream) (n + count) (Some mark) =
    λ stream n s. subst (λ zs. IsNextMark old.notes zs (known_lines old.finished old.notes stream) (n + count) (Some mark)) same
    (next_of old now stream count mid.buffer.bytes.items (n + count) (Some mark) h.moves (next stream (n + count) (h.moves.stands stream n s))) in
    record {
      moves = record {
        same = record { notes = e.same.notes ∙ m.same.notes ∙ h.moves.same.notes; finished = e.same.finished ∙ m.same.finished ∙ h.moves.same.finished };
        fed = e.fed ∙ m.fed ∙ h.moves.fed;
        stands = λ stream n s.
            let is : n + count + 1 ≡ n + (count + 1) = omega arith in
            subst (Stands new stream) is (stands_searched mid new stream (n + count + 1) e (m.stands stream (n + count) (h.moves.stands stream n s)));
        room = omega (arith, e.end, m.room, h.moves.room);
      };
      bytes = text ∙ bytes ∙ h.bytes;
      marked = λ stream n s.
          let known = known_lines old.finished old.notes stream in
          subst (AreNextMarks old.notes old.buffer.bytes.items known n) (sym taken)
          (marks_more old.notes old.buffer.bytes.items known n (take count now.marks.items) mark (h.marked stream n s)
          (subst (λ j. IsNextMark old.notes old.buffer.bytes.items known (n + j) (Some mark)) (sym many) (here stream n s)));
      enough = λ stream n s some.
          let (line, is, number, marked) = here stream n s in
          omega (arith, slice_get_within (known_lines old.finished old.notes stream) (n + count) line is);
    }

-- There was no further line.
pub marked_all : (old now : Lines) (count : ℕ) (text : List ℕ) → Marked old now count → count < most_marks
    → ((stream : List ℕ) (n : ℕ) → Stands now stream n → IsNextMark now.notes text (known_lines now.finished now.notes stream) n None)
    → (stream : List ℕ) (n : ℕ) → Stands old stream n → count ≡ min (length (known_lines old.finished old.notes stream) - n) most_marks
marked_all old now count text h low none stream n s =
    let is : length (known_lines old.finished old.notes stream) ≡ n + count = next_of old now stream count text (n + count) None h.moves (none stream (n + count) (h.moves.stands stream n s)) in
    omega (arith, is, low)

-- The marks, where the text is that of the end.
pub marked_text : (old now : Lines) (count : ℕ) (text : List ℕ) (marks : List Mark) → Marked old now count → text ≡ now.buffer.bytes.items → marks ≡ take count now.marks.items → (stream : List ℕ) (n : ℕ) → Stands old stream n → AreNextMarks old.notes text (known_lines old.finished old.notes stream) n marks
marked_text old now count text marks h same are stream n s =
    let known = known_lines old.finished old.notes stream in
    subst (AreNextMarks old.notes text known n) (sym are)
    (subst (λ zs. AreNextMarks old.notes zs known n (take count now.marks.items)) (sym (same ∙ ap (λ v. v.items) h.bytes)) (h.marked stream n s))

-- What the caller sees of the marks that were taken.
pub record Seen (old new : Lines) (taken : ℕ) (marks : List Mark) : Type 0 where
  pub moves : MovesOn old new (length marks)
  pub room : marks ≡ [] → least_room ≤ room_of new

pub seen : (old new : Lines) (taken : ℕ) (marks : List Mark) → MovesOn old new taken → (taken ≡ 0 → least_room ≤ room_of new) → marks ≡ take taken new.marks.items → taken ≤ most_marks → Seen old new taken marks
seen old new taken marks m room are few =
    let many : taken ≡ length marks = sym (ap length are ∙ length-take-le taken new.marks.items (omega (arith, new.room_for_marks, few))) in
    record {
      moves = subst (MovesOn old new) many m;
      room = λ none. room (many ∙ ap length none);
    }
