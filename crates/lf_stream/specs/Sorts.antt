-- Which sort a line is of: a note, long, or a line to be read.
use Rattle.std.specs.Prelude.{◌≡◌, ℕ, ◌+◌, ◌<◌, ltb, Bool, false, ◌&&◌, ◌==◌, cond, List, [], ◌∷◌, ◌++◌, length}
use Rattle.lf_limits.specs.Limits.{most_line_bytes}
use Rattle.lf_stream.specs.declared.marks.Sort.{Sort}
use Rattle.lf_stream.specs.declared.marks.Sort.TheVariants.{Line, Note, Long}
use Rattle.lf_stream.specs.Cut.{HasNoFeed}

-- Where the stream may have notes, a line that begins with `#` is one.
abbrev pub is_note : Bool → List ℕ → Bool
is_note notes [] = false
is_note notes (b ∷ bs) = notes && b == 35

-- A line is a note, or long where it has more than `most_line_bytes` bytes, or else a line to be read.
abbrev pub sort_of : Bool → List ℕ → Sort
sort_of notes line = cond (is_note notes line) Note (cond (ltb most_line_bytes (length line)) Long Line)

-- How many bytes were dropped at least, by the sort of the line that they belong to.
abbrev pub least_dropped : Sort → ℕ
least_dropped Line = 0
least_dropped Note = 1
least_dropped Long = 1

-- Bytes were dropped from the start of a line of this sort, so many that its sort is settled.
pub record Drops (notes : Bool) (sort : Sort) (bytes rest : List ℕ) : Type 0 where
  pub dropped : List ℕ
  pub joined : rest ≡ dropped ++ bytes
  pub unended : HasNoFeed dropped
  pub many : most_line_bytes + 1 < length dropped
  pub sort_is : sort ≡ sort_of notes dropped

-- What is held of the rest of a stream: all of its bytes, or those after the ones that were dropped.
abbrev pub Holds : Bool → Sort → List ℕ → List ℕ → Type 0
Holds notes Line bytes rest = bytes ≡ rest
Holds notes Note bytes rest = Drops notes Note bytes rest
Holds notes Long bytes rest = Drops notes Long bytes rest
