-- The verdicts of marked lines.
use Rattle.std.specs.Prelude.{◌≡◌, ℕ, List}
use Rattle.std.specs.List.{AllZip}
use Rattle.lf_compile.specs.Confused.{IsOnlyRecord}
use Rattle.lf_format.specs.Lines.{PrintsNone}
use Rattle.lf_format.specs.declared.format.Piece.{Piece}
use Rattle.lf_stream.specs.declared.marks.Mark.{Mark}
use Rattle.lf_stream.specs.declared.marks.Sort.TheVariants as sort
use Rattle.lf_batch.specs.Within.{marked_line}
use Rattle.lf_batch.specs.declared.verdict.Found.{Found}
use Rattle.lf_batch.specs.declared.verdict.Found.TheVariants.{Rec, Unread, Note, Long}
use Rattle.lf_batch.specs.declared.verdict.Verdict.{Verdict}

-- What is found of a line that is marked as one to be read: the record that prints it, or that none does. Of others it
-- is found that they are marked as notes, or as too long.
abbrev pub IsFound : List Piece → List ℕ → Mark → Found → Type 0
IsFound pieces text mark (Rec r) = (mark.sort ≡ sort.Line) × IsOnlyRecord pieces (marked_line text mark) r
IsFound pieces text mark Unread = (mark.sort ≡ sort.Line) × PrintsNone pieces (marked_line text mark)
IsFound pieces text mark Note = mark.sort ≡ sort.Note
IsFound pieces text mark Long = mark.sort ≡ sort.Long

-- The verdict of a marked line: its number, and what is found of it.
pub record IsVerdict (pieces : List Piece) (text : List ℕ) (mark : Mark) (verdict : Verdict) : Type 0 where
  pub number_is : verdict.number ≡ mark.number
  pub found_is : IsFound pieces text mark verdict.found

-- The verdicts of marked lines, in their order.
abbrev pub AreVerdicts : List Piece → List ℕ → List Mark → List Verdict → Type 0
AreVerdicts pieces text marks verdicts = AllZip (IsVerdict pieces text) marks verdicts
