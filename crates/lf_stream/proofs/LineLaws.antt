-- The next line is taken.
use Rattle.std.proofs.Common.{◌≡◌, ◌≢◌, add-zero, ℕ, ◌+◌, ◌<◌, ◌≤◌, Bool, true, false, List, [], ◌∷◌, ◌++◌, Some, length, refl, sym, ◌∙◌, ap, subst, arith, length-append}
use Rattle.std.specs.Prelude.{slice_get, slice_range}
use Rattle.std.proofs.lemmas.List.{append-nil}
use Rattle.std.proofs.lemmas.List.Edits.{length-between, between_none}
use Rattle.lf_stream.specs.declared.lines.Lines.{Lines}
use Rattle.lf_stream.specs.declared.marks.Sort.TheVariants.{Line}
use Rattle.lf_stream.specs.Cut.{HasNoFeed, known_lines, line_of}
use Rattle.lf_stream.specs.Sorts.{Holds, least_dropped}
use Rattle.lf_stream.specs.declared.marks.Mark.{Mark}
use Rattle.lf_stream.specs.declared.marks.Body.{Body}
use Rattle.lf_stream.specs.Marks.{IsMark, IsBody, IsNext, IsNextMark}
use Rattle.lf_stream.specs.Held.{held_bytes, FeedsAt}
use Rattle.lf_stream.specs.Standing.{Goes, Stands, SameStream, HasTaken, MovesOn, settled_sort}
use Rattle.lf_stream.proofs.SortLaws.{holds_front, holds_some, holds_none, holds_by}
use Rattle.lf_stream.proofs.StandLaws.{goes_line, goes_last, next_known, none_whole, none_left}

-- Nothing was changed but how far the search has come.
pub record Searched (old new : Lines) : Type 0 where
  pub same : SameStream old new
  pub fed : new.fed ≡ old.fed
  pub given : new.given ≡ old.given
  pub first_sort : new.first_sort ≡ old.first_sort
  pub bytes : held_bytes new.buffer ≡ held_bytes old.buffer
  pub end : new.buffer.end ≡ old.buffer.end

goes_as : (f g : Bool) (stream : List ℕ) (given : List (List ℕ)) (rest : List ℕ) → g ≡ f → Goes f stream given rest → Goes g stream given rest
goes_as f g stream given rest e h = subst (λ b. Goes b stream given rest) (sym e) h

pub stands_searched : (old new : Lines) (stream : List ℕ) (n : ℕ) → Searched old new → Stands old stream n → Stands new stream n
stands_searched old new stream n e s = record {
  given = s.given;
  rest = s.rest;
  fed = e.fed ∙ s.fed;
  number = e.given ∙ s.number;
  count = s.count;
  goes = goes_as old.finished new.finished stream s.given s.rest e.same.finished s.goes;
  holds = rw (e.same.notes, e.first_sort, e.bytes) s.holds;
}

-- The next line stands before one place, and the rest begins at another.
pub record HasNext (l : Lines) (stream : List ℕ) (n to next : ℕ) : Type 0 where
  pub given : List (List ℕ)
  pub line : List ℕ
  pub later : List ℕ
  pub fed : l.fed ≡ length stream
  pub number : l.given ≡ n
  pub count : length given ≡ n
  pub goes : Goes l.finished stream (given ++ line ∷ []) later
  pub holds : Holds l.notes l.first_sort (slice_range l.buffer.bytes.items l.buffer.start to) line
  pub later_is : slice_range l.buffer.bytes.items next l.buffer.end ≡ later

pub next_ended : (l : Lines) (stream : List ℕ) (n at : ℕ) → FeedsAt l.buffer at → Stands l stream n → HasNext l stream n at (at + 1)
next_ended l stream n at f s =
    let line = slice_range l.buffer.bytes.items l.buffer.start at in
    let later = slice_range l.buffer.bytes.items (at + 1) l.buffer.end in
    let front = holds_front l.notes l.first_sort line (10 ∷ later) s.rest f.unended (subst (λ bytes. Holds l.notes l.first_sort bytes s.rest) f.joined s.holds) in
    record {
      given = s.given;
      line = front.line;
      later = later;
      fed = s.fed;
      number = s.number;
      count = s.count;
      goes = goes_line l.finished stream s.given s.rest front.line later s.goes front.joined front.unended;
      holds = front.holds;
      later_is = refl;
    }

held_length : (l : Lines) → length (held_bytes l.buffer) + l.buffer.start ≡ l.buffer.end
held_length l =
    let b = l.buffer in
    omega (arith, length-between b.bytes.items b.start b.end (omega (arith, b.filled)), b.from, b.to)

pub next_last : (l : Lines) (stream : List ℕ) (n : ℕ) → l.finished ≡ true → HasNoFeed (held_bytes l.buffer) → l.buffer.start + 1 ≤ l.buffer.end + least_dropped l.first_sort → Stands l stream n → HasNext l stream n l.buffer.end l.buffer.end
next_last l stream n over none some s =
    let bytes = held_bytes l.buffer in
    let front = holds_front l.notes l.first_sort bytes [] s.rest none (subst (λ zs. Holds l.notes l.first_sort zs s.rest) (sym (append-nil bytes)) s.holds) in
    let is : s.rest ≡ front.line = front.joined ∙ append-nil front.line in
    let more : 0 < length front.line = holds_some l.notes l.first_sort bytes front.line front.holds (omega (arith, some, held_length l)) in
    record {
      given = s.given;
      line = front.line;
      later = [];
      fed = s.fed;
      number = s.number;
      count = s.count;
      goes = goes_last l.finished stream s.given front.line over (subst (Goes l.finished stream s.given) is s.goes) front.unended more;
      holds = front.holds;
      later_is = between_none l.buffer.bytes.items l.buffer.end;
    }

pub stands_next : (old new : Lines) (stream : List ℕ) (n to next : ℕ) → HasTaken old new next → HasNext old stream n to next → Stands new stream (n + 1)
stands_next old new stream n to next t h = record {
  given = h.given ++ h.line ∷ [];
  rest = h.later;
  fed = t.fed ∙ h.fed;
  number = omega (arith, t.given, h.number);
  count = omega (arith, h.count, length-append h.given (h.line ∷ []));
  goes = goes_as old.finished new.finished stream (h.given ++ h.line ∷ []) h.later t.same.finished h.goes;
  holds = rw (t.same.notes, t.first_sort, t.bytes, t.start, t.end) h.later_is;
}

pub next_is : (l : Lines) (stream : List ℕ) (n to next : ℕ) (h : HasNext l stream n to next) → slice_get (known_lines l.finished l.notes stream) n ≡ Some (line_of l.notes h.line)
next_is l stream n to next h = next_known l.finished l.notes stream h.given h.line h.later n h.goes h.count

-- No line is held while the stream goes on.
pub no_next_open : (l : Lines) (stream : List ℕ) (n : ℕ) → l.finished ≡ false → HasNoFeed (held_bytes l.buffer) → Stands l stream n → length (known_lines l.finished l.notes stream) ≡ n
no_next_open l stream n going none s =
    let bytes = held_bytes l.buffer in
    let front = holds_front l.notes l.first_sort bytes [] s.rest none (subst (λ zs. Holds l.notes l.first_sort zs s.rest) (sym (append-nil bytes)) s.holds) in
    none_whole l.finished l.notes stream s.given s.rest n going s.goes s.count (subst HasNoFeed (sym (front.joined ∙ append-nil front.line)) front.unended)

-- Nothing is held.
pub no_next_left : (l : Lines) (stream : List ℕ) (n : ℕ) → l.buffer.end + least_dropped l.first_sort < l.buffer.start + 1 → Stands l stream n → length (known_lines l.finished l.notes stream) ≡ n
no_next_left l stream n none s =
    none_left l.finished l.notes stream s.given s.rest n s.goes s.count (holds_none l.notes l.first_sort (held_bytes l.buffer) s.rest s.holds (omega (arith, none, held_length l)))

pub moves_next : (old mid new : Lines) (to next : ℕ) → HasTaken mid new next → Searched old mid → ((stream : List ℕ) (n : ℕ) → Stands mid stream n → HasNext mid stream n to next) → MovesOn old new 1
moves_next old mid new to next t e has = record {
  same = record { notes = t.same.notes ∙ e.same.notes; finished = t.same.finished ∙ e.same.finished };
  fed = t.fed ∙ e.fed;
  stands = λ stream n s. stands_next mid new stream n to next t (has stream n (stands_searched old mid stream n e s));
  room = omega (arith, t.end, e.end);
}

pub marks_next : (old mid new : Lines) (to next : ℕ) (stream : List ℕ) (n : ℕ) (mark : Mark) → HasTaken mid new next → Searched old mid → ((stream : List ℕ) (n : ℕ) → Stands mid stream n → HasNext mid stream n to next) → mark.number ≡ mid.given + 1
    → ((line : List ℕ) → Holds mid.notes mid.first_sort (slice_range mid.buffer.bytes.items mid.buffer.start to) line → IsMark mid.notes mid.buffer.bytes.items (line_of mid.notes line) mark)
    → Stands old stream n → IsNextMark old.notes new.buffer.bytes.items (known_lines old.finished old.notes stream) n (Some mark)
marks_next old mid new to next stream n mark t e has number marks s =
    let h = has stream n (stands_searched old mid stream n e s) in
    let line = line_of mid.notes h.line in
    let known : known_lines old.finished old.notes stream ≡ known_lines mid.finished mid.notes stream =
    ap (λ f. known_lines f old.notes stream) (sym e.same.finished) ∙ ap (λ notes. known_lines mid.finished notes stream) (sym e.same.notes) in
    let bytes : new.buffer.bytes.items ≡ mid.buffer.bytes.items = rw t.bytes refl in (
      line,
      ap (λ ls. slice_get ls n) known ∙ next_is mid stream n to next h,
      omega (arith, number, h.number),
      subst (λ notes. IsMark notes new.buffer.bytes.items line mark) e.same.notes (subst (λ zs. IsMark mid.notes zs line mark) (sym bytes) (marks h.line h.holds)),
    )

-- What was held of a line is dropped.
pub stands_dropped : (old new : Lines) (stream : List ℕ) (n : ℕ) → SameStream old new → new.fed ≡ old.fed → new.given ≡ old.given → new.first_sort ≡ settled_sort old → settled_sort old ≢ Line → held_bytes new.buffer ≡ [] → HasNoFeed (held_bytes old.buffer) → Stands old stream n → Stands new stream (n + 0)
stands_dropped old new stream n same fed given front other empty none s = record {
  given = s.given;
  rest = s.rest;
  fed = fed ∙ s.fed;
  number = omega (arith, given, s.number);
  count = omega (arith, s.count);
  goes = goes_as old.finished new.finished stream s.given s.rest same.finished s.goes;
  holds = rw (same.notes, front, empty) (holds_by old.notes old.first_sort (held_bytes old.buffer) s.rest other none s.holds);
}

-- The stream moves on, and then nothing is taken.
pub moves_both : (old mid new : Lines) (taken : ℕ) → MovesOn old mid taken → MovesOn mid new 0 → MovesOn old new taken
moves_both old mid new taken a b = record {
  same = record { notes = b.same.notes ∙ a.same.notes; finished = b.same.finished ∙ a.same.finished };
  fed = b.fed ∙ a.fed;
  stands = λ stream n s. subst (Stands new stream) (add-zero (n + taken)) (b.stands stream (n + taken) (a.stands stream n s));
  room = omega (arith, a.room, b.room);
}

-- The body is that of the line which was marked.
pub next_body : (notes same : Bool) (text : List ℕ) (lines : List (List ℕ)) (n : ℕ) (mark : Mark) (body : Body) → same ≡ notes → IsNextMark notes text lines n (Some mark) → ((line : List ℕ) → IsMark same text line mark → IsBody same line body) → IsNext notes lines n (Some (record { number = mark.number; body = body }))
next_body notes same text lines n mark body e (line, at, is, marked) made =
    (line, at, is, subst (λ b. IsBody b line body) e (made line (subst (λ b. IsMark b text line mark) (sym e) marked)))
