-- What is said of a line.
use Rattle.std.specs.Prelude.{◌≡◌, ◌≢◌, ℕ, ◌+◌, ◌-◌, ◌<◌, ◌≤◌, min, Bool, List, Option, Some, None, length, slice_get, slice_range}
use Rattle.lf_stream.specs.declared.marks.Sort.TheVariants as sort
use Rattle.lf_stream.specs.declared.marks.Mark.{Mark}
use Rattle.lf_stream.specs.declared.marks.Body.{Body}
use Rattle.lf_stream.specs.declared.marks.Body.TheVariants as body
use Rattle.lf_stream.specs.declared.marks.Numbered.{Numbered}
use Rattle.lf_limits.specs.Limits.{most_marks}
use Rattle.lf_stream.specs.Sorts.{sort_of}

-- The bytes from this place on are the line.
pub record StandsAt (text line : List ℕ) (start len : ℕ) : Type 0 where
  pub within : start + len ≤ length text
  pub bytes : slice_range text start (start + len) ≡ line

-- The mark tells what the line is, and where in the text its bytes stand if it is to be read.
pub record IsMark (notes : Bool) (text line : List ℕ) (mark : Mark) : Type 0 where
  pub sort_is : mark.sort ≡ sort_of notes line
  pub kept : mark.sort ≡ sort.Line → StandsAt text line mark.start mark.len
  pub not_kept : mark.sort ≢ sort.Line → (mark.start ≡ 0) × (mark.len ≡ 0)

-- The bytes are those of the line, or it is a note or too long.
abbrev pub IsBody : Bool → List ℕ → Body → Type 0
IsBody notes line (body.Line bytes) = (sort_of notes line ≡ sort.Line) × (bytes.now ≡ line)
IsBody notes line body.Note = sort_of notes line ≡ sort.Note
IsBody notes line body.Long = sort_of notes line ≡ sort.Long

-- What comes after n lines: the next, with its number, or None where there is no further.
abbrev pub IsNext : Bool → List (List ℕ) → ℕ → Option Numbered → Type 0
IsNext notes lines n None = length lines ≡ n
IsNext notes lines n (Some next) = (line : List ℕ) × (slice_get lines n ≡ Some line) × (next.number ≡ n + 1) × IsBody notes line next.body

-- The same of a mark.
abbrev pub IsNextMark : Bool → List ℕ → List (List ℕ) → ℕ → Option Mark → Type 0
IsNextMark notes text lines n None = length lines ≡ n
IsNextMark notes text lines n (Some next) = (line : List ℕ) × (slice_get lines n ≡ Some line) × (next.number ≡ n + 1) × IsMark notes text line next

-- The marks are those of the next lines.
abbrev pub AreNextMarks : Bool → List ℕ → List (List ℕ) → ℕ → List Mark → Type 0
AreNextMarks notes text lines n marks = (k : ℕ) → k < length marks → IsNextMark notes text lines (n + k) (slice_get marks k)

-- The lines after the first n are marked in the text, all of them, or `most_marks` where there are more.
pub record IsMarked (notes : Bool) (lines : List (List ℕ)) (n : ℕ) (text : List ℕ) (marks : List Mark) : Type 0 where
  pub count : length marks ≡ min (length lines - n) most_marks
  pub marked : AreNextMarks notes text lines n marks
