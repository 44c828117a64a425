-- How far the lines of a stream are given.
use Rattle.std.specs.Prelude.{◌≡◌, ℕ, ◌+◌, ◌-◌, ◌≤◌, ltb, cond, Bool, true, false, List, [], ◌++◌, Option, Some, None, length}
use Rattle.lf_limits.specs.Limits.{buffer_bytes, least_room, most_line_bytes}
use Rattle.lf_stream.specs.declared.lines.Lines.{Lines}
use Rattle.lf_stream.specs.declared.marks.Sort.{Sort}
use Rattle.lf_stream.specs.declared.marks.Sort.TheVariants as sort
use Rattle.lf_stream.specs.declared.marks.Numbered.{Numbered}
use Rattle.lf_stream.specs.declared.marks.Batch.{Batch}
use Rattle.std.specs.Borrow.{MutBor, Fml}
use Rattle.std.specs.Io.BufRead.{Rests}
use Rattle.lf_stream.specs.contracts.lines.Lines.{the_row}
use Rattle.lf_stream.specs.Cut.{cut_lines, whole_part}
use Rattle.lf_stream.specs.Sorts.{Holds, sort_of}
use Rattle.lf_stream.specs.Held.{held_bytes}

-- whether the stream may have notes
abbrev pub has_notes : Lines → Bool
has_notes l = l.notes

-- whether the stream has ended
abbrev pub is_finished : Lines → Bool
is_finished l = l.finished

-- how many bytes were fed
abbrev pub bytes_fed : Lines → ℕ
bytes_fed l = l.fed

-- how many bytes may be fed
abbrev pub room_of : Lines → ℕ
room_of l = buffer_bytes - l.buffer.end

-- The first lines are those given, and the others are those of the rest.
pub record Continues (stream : List ℕ) (given : List (List ℕ)) (rest : List ℕ) : Type 0 where
  pub lines : cut_lines stream ≡ given ++ cut_lines rest
  pub whole : cut_lines (whole_part stream) ≡ given ++ cut_lines (whole_part rest)

-- Until the stream has ended, this holds whatever may follow.
abbrev pub Goes : Bool → List ℕ → List (List ℕ) → List ℕ → Type 0
Goes false stream given rest = (more : List ℕ) → Continues (stream ++ more) given (rest ++ more)
Goes true stream given rest = cut_lines stream ≡ given ++ cut_lines rest

-- This stream was fed, the first n of its lines were given, and the rest is held.
pub record Stands (l : Lines) (stream : List ℕ) (n : ℕ) : Type 0 where
  pub given : List (List ℕ)
  pub rest : List ℕ
  pub fed : l.fed ≡ length stream
  pub number : l.given ≡ n
  pub count : length given ≡ n
  pub goes : Goes l.finished stream given rest
  pub holds : Holds l.notes l.first_sort (held_bytes l.buffer) rest

-- The stream is one with notes, and has ended, as before.
pub record SameStream (old new : Lines) : Type 0 where
  pub notes : new.notes ≡ old.notes
  pub finished : new.finished ≡ old.finished

-- The line before `next` was taken.
pub record HasTaken (old new : Lines) (next : ℕ) : Type 0 where
  pub same : SameStream old new
  pub fed : new.fed ≡ old.fed
  pub given : new.given ≡ old.given + 1
  pub first_sort : new.first_sort ≡ sort.Line
  pub bytes : new.buffer.bytes ≡ old.buffer.bytes
  pub marks : new.marks ≡ old.marks
  pub start : new.buffer.start ≡ next
  pub end : new.buffer.end ≡ old.buffer.end

-- one where there is a line
abbrev pub one_if_some : {X : Type 0} → Option X → ℕ
one_if_some None = 0
one_if_some (Some x) = 1

-- A line was taken, or none.
pub record MovesOn (old new : Lines) (taken : ℕ) : Type 0 where
  pub same : SameStream old new
  pub fed : new.fed ≡ old.fed
  pub stands : (stream : List ℕ) (n : ℕ) → Stands old stream n → Stands new stream (n + taken)
  pub room : room_of old ≤ room_of new

-- The sort of the first line that is held, where so many bytes of it have come that they aren't kept, or else Line.
abbrev pub settled_by : Bool → Sort → List ℕ → Sort
settled_by notes sort.Line bytes = cond (ltb (most_line_bytes + 1) (length bytes)) (sort_of notes bytes) sort.Line
settled_by notes sort.Note bytes = sort.Note
settled_by notes sort.Long bytes = sort.Long

abbrev pub settled_sort : Lines → Sort
settled_sort l = settled_by l.notes l.first_sort (held_bytes l.buffer)

-- Where there was no line, there is much room.
abbrev pub HasRoomAtNone : {X : Type 0} → Option X → Lines → Type 0
HasRoomAtNone None l = least_room ≤ room_of l
HasRoomAtNone (Some x) l = Unit {0}

-- Once the borrow ends, the stream has moved on by the line that was given, if any.
abbrev pub RestsOn : MutBor Lines → Option Numbered → Fml
RestsOn l next = Rests the_row l (λ new. MovesOn l.now new (one_if_some next) × HasRoomAtNone next new)

-- Once the borrow ends, the stream has moved on by the lines of the batch.
abbrev pub RestsBatch : MutBor Lines → Batch → Fml
RestsBatch l batch = Rests the_row l (λ new. MovesOn l.now new (length batch.marks.now) × (batch.marks.now ≡ [] → least_room ≤ room_of new))
