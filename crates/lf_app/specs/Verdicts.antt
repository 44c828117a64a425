-- What is found of a line, and what is written of it.
use Rattle.std.specs.Prelude.{◌≡◌, ℕ, ◌+◌, Bool, true, false, ◌||◌, List, [], ◌∷◌, ◌++◌, codes, Ok, Err}
use Rattle.std.specs.List.{flat_map}
use Rattle.std.specs.Fmt.{decimal}
use Rattle.lf_format.specs.Shape.{Shape}
use Rattle.lf_format.specs.Lines.{Prints, PrintsNone, line_text, IsRecordOf}
use Rattle.lf_json.specs.Reading.{ReadsJson}
use Rattle.lf_json.specs.Text.{json_text}
use Rattle.lf_json.specs.declared.bad_record.BadRecord.{BadRecord}
use Rattle.lf_json.specs.declared.bad_record.BadRecord.TheVariants.{NotJson, WrongCount, WrongValue, OutOfMemory}
use Rattle.lf_log.specs.Ends.{end_text}
use Rattle.lf_stream.specs.Sorts.{sort_of}
use Rattle.lf_stream.specs.declared.marks.Sort.TheVariants as sort
use Rattle.lf_translate.specs.declared.turning.Turned.TheVariants as turned
use Rattle.lf_translate.specs.Translations.{IsTurnedTo}
use Rattle.lf_app.specs.declared.commands.Job.{Job}
use Rattle.lf_app.specs.declared.commands.Job.TheVariants as jobs
use Rattle.lf_app.specs.declared.verdict.Finding.{Finding}
use Rattle.lf_app.specs.declared.verdict.Finding.TheVariants.{Read, Unread, Given, Bad, Turned, Unmapped}
use Rattle.lf_app.specs.declared.verdict.Verdict.{Verdict}
use Rattle.lf_app.specs.declared.verdict.Verdict.TheVariants.{Note, Long, Found}

-- the format of what is found: of a translation it is the target
abbrev pub format_of : Job → Shape
format_of (jobs.Read format) = format
format_of (jobs.Write format) = format
format_of (jobs.Translate plan) = plan.target

-- whether the stream may have notes: lines of JSON have none
abbrev pub has_notes : Job → Bool
has_notes (jobs.Read format) = format.notes
has_notes (jobs.Write format) = false
has_notes (jobs.Translate plan) = plan.source.notes

-- What is found of a line: the record that prints it, or that none does; or the record that it is as JSON, or why it is
-- none; or the line that it is turned to, or the first slot of the target that has no value for it.
abbrev pub IsFound : Job → List ℕ → Finding → Type 0
IsFound (jobs.Read format) line (Read r) = Prints format.pieces r line
IsFound (jobs.Read format) line Unread = PrintsNone format.pieces line
IsFound (jobs.Read format) line (Given r) = ⊥
IsFound (jobs.Read format) line (Bad bad) = ⊥
IsFound (jobs.Read format) line (Turned text) = ⊥
IsFound (jobs.Read format) line (Unmapped k) = ⊥
IsFound (jobs.Write format) line (Given r) = ReadsJson format.pieces line (Ok r)
IsFound (jobs.Write format) line (Bad bad) = ReadsJson format.pieces line (Err bad)
IsFound (jobs.Write format) line (Read r) = ⊥
IsFound (jobs.Write format) line Unread = ⊥
IsFound (jobs.Write format) line (Turned text) = ⊥
IsFound (jobs.Write format) line (Unmapped k) = ⊥
IsFound (jobs.Translate plan) line (Turned text) = IsTurnedTo plan line (turned.Line text)
IsFound (jobs.Translate plan) line (Unmapped k) = IsTurnedTo plan line (turned.Unmapped k)
IsFound (jobs.Translate plan) line Unread = PrintsNone plan.source.pieces line
IsFound (jobs.Translate plan) line (Read r) = ⊥
IsFound (jobs.Translate plan) line (Given r) = ⊥
IsFound (jobs.Translate plan) line (Bad bad) = ⊥

-- The verdict of a line: it is a note, or long, or what is found of it.
abbrev pub IsVerdict : Job → List ℕ → Verdict → Type 0
IsVerdict job line Note = sort_of (has_notes job) line ≡ sort.Note
IsVerdict job line Long = sort_of (has_notes job) line ≡ sort.Long
IsVerdict job line (Found finding) = (sort_of (has_notes job) line ≡ sort.Line) × IsFound job line finding

-- The verdicts of lines, in order.
abbrev pub AreVerdicts : Job → List (List ℕ) → List Verdict → Type 0
AreVerdicts job [] [] = Unit {0}
AreVerdicts job [] (v ∷ vs) = ⊥
AreVerdicts job (l ∷ ls) [] = ⊥
AreVerdicts job (l ∷ ls) (v ∷ vs) = IsVerdict job l v × AreVerdicts job ls vs

-- what `out` gets of a finding: the record's JSON, or its line, or the line that it is turned to, with the format's end
abbrev pub finding_text : Shape → Finding → List ℕ
finding_text format (Read r) = json_text r ++ 10 ∷ []
finding_text format Unread = []
finding_text format (Given r) = line_text format.pieces r ++ end_text format.end
finding_text format (Bad bad) = []
finding_text format (Turned text) = text ++ end_text format.end
finding_text format (Unmapped k) = []

-- what `out` gets of a line
abbrev pub out_of : Job → Verdict → List ℕ
out_of job Note = []
out_of job Long = []
out_of job (Found finding) = finding_text (format_of job) finding

-- a line of `err` that lists the line of this number
abbrev pub listed_line : List ℕ → ℕ → List ℕ → List ℕ
listed_line word n cause = word ++ decimal n ++ cause ++ 10 ∷ []

-- why a line of JSON is no record
abbrev pub bad_text : BadRecord → List ℕ
bad_text NotJson = codes " NotJson"
bad_text (WrongCount n) = codes " WrongCount " ++ decimal n
bad_text (WrongValue k) = codes " WrongValue s" ++ decimal k
bad_text OutOfMemory = []

-- what `err` gets of a finding at the line of this number
abbrev pub finding_err : ℕ → Finding → List ℕ
finding_err n (Read r) = []
finding_err n Unread = listed_line (codes "unread ") n []
finding_err n (Given r) = []
finding_err n (Bad bad) = listed_line (codes "bad ") n (bad_text bad)
finding_err n (Turned text) = []
finding_err n (Unmapped k) = listed_line (codes "unmapped ") n (codes " s" ++ decimal k)

-- what `err` gets of the line of this number
abbrev pub err_of : ℕ → Verdict → List ℕ
err_of n Note = []
err_of n Long = listed_line (codes "long ") n []
err_of n (Found finding) = finding_err n finding

-- what `out` gets of lines
abbrev pub out_text : Job → List Verdict → List ℕ
out_text job = flat_map (out_of job)

-- what `err` gets of lines that are numbered from n on
abbrev pub err_text : ℕ → List Verdict → List ℕ
err_text n [] = []
err_text n (v ∷ vs) = err_of n v ++ err_text (n + 1) vs

-- whether `err` lists the line
abbrev pub is_listed : Verdict → Bool
is_listed Note = false
is_listed Long = true
is_listed (Found (Read r)) = false
is_listed (Found Unread) = true
is_listed (Found (Given r)) = false
is_listed (Found (Bad bad)) = true
is_listed (Found (Turned text)) = false
is_listed (Found (Unmapped k)) = true

-- whether `err` lists some line
abbrev pub any_listed : List Verdict → Bool
any_listed [] = false
any_listed (v ∷ vs) = is_listed v || any_listed vs

-- The records that were found are records of the format.
abbrev pub IsOfFormat : Shape → Verdict → Type 0
IsOfFormat format (Found (Read r)) = IsRecordOf format.pieces r
IsOfFormat format (Found (Given r)) = IsRecordOf format.pieces r
IsOfFormat format (Found Unread) = Unit {0}
IsOfFormat format (Found (Bad bad)) = Unit {0}
IsOfFormat format (Found (Turned text)) = Unit {0}
IsOfFormat format (Found (Unmapped k)) = Unit {0}
IsOfFormat format Note = Unit {0}
IsOfFormat format Long = Unit {0}
