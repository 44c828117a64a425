-- Where the line of a mark stands in a text.
use Rattle.std.specs.Prelude.{ℕ, ◌+◌, ◌≤◌, List, length, slice_range}
use Rattle.lf_stream.specs.declared.marks.Mark.{Mark}

-- The line that is marked stands within the text.
abbrev pub LiesWithin : List ℕ → Mark → Type 0
LiesWithin text mark = mark.start + mark.len ≤ length text

-- the bytes of the line that is marked
abbrev pub marked_line : List ℕ → Mark → List ℕ
marked_line text mark = slice_range text mark.start (mark.start + mark.len)
