-- The lines of a stream.
use Rattle.std.specs.Prelude.{◌≡◌, ℕ, Bool, true, false, ◌||◌, ◌==◌, cond, List, [], ◌∷◌, map}

-- the byte before the first line
abbrev pub with_first : ℕ → List (List ℕ) → List (List ℕ)
with_first b [] = (b ∷ []) ∷ []
with_first b (line ∷ lines) = (b ∷ line) ∷ lines

-- The bytes are cut at each line feed. A last rest is a line where it isn't empty.
abbrev pub cut_lines : List ℕ → List (List ℕ)
cut_lines [] = []
cut_lines (b ∷ bs) = cond (b == 10) ([] ∷ cut_lines bs) (with_first b (cut_lines bs))

-- the line without a CR at its end
abbrev pub without_cr : List ℕ → List ℕ
without_cr [] = []
without_cr (b ∷ []) = cond (b == 13) [] (b ∷ [])
without_cr (b ∷ c ∷ bs) = b ∷ without_cr (c ∷ bs)

-- Where the stream may have notes, a CR at a line's end is no part of the line.
abbrev pub line_of : Bool → List ℕ → List ℕ
line_of false line = line
line_of true line = without_cr line

-- The lines of a stream, which may have notes or not.
abbrev pub lines_of : Bool → List ℕ → List (List ℕ)
lines_of notes stream = map (line_of notes) (cut_lines stream)

-- whether a line feed is among the bytes
abbrev pub has_feed : List ℕ → Bool
has_feed [] = false
has_feed (b ∷ bs) = b == 10 || has_feed bs

-- No line feed is among the bytes.
abbrev pub HasNoFeed : List ℕ → Type 0
HasNoFeed line = has_feed line ≡ false

-- The bytes up to and with the last line feed.
abbrev pub whole_part : List ℕ → List ℕ
whole_part [] = []
whole_part (b ∷ bs) = cond (has_feed (b ∷ bs)) (b ∷ whole_part bs) []

-- The lines that are known: those of the whole part until the stream has ended, then all.
abbrev pub known_lines : Bool → Bool → List ℕ → List (List ℕ)
known_lines false notes stream = lines_of notes (whole_part stream)
known_lines true notes stream = lines_of notes stream
