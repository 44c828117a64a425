-- How far the lines of a stream are read.
use Rattle.std.specs.Prelude.{◌≡◌, ℕ, ◌+◌, ◌≤◌, Bool, true, false, ◌||◌, cond, List, [], ◌∷◌, ◌++◌, length, All}
use Rattle.lf_compile.specs.declared.refused.Confusion.{Confusion}
use Rattle.lf_format.specs.Lines.{IsReadable}
use Rattle.lf_json.specs.Text.{HasJson}
use Rattle.lf_stream.specs.Cut.{known_lines}
use Rattle.lf_stream.specs.Standing.{Stands, is_finished, room_of, has_notes as may_have_notes}
use Rattle.lf_limits.specs.Limits.{least_room}
use Rattle.lf_stream.specs.declared.lines.Lines.{Lines as Cutter}
use Rattle.lf_app.specs.declared.commands.Command.{Command}
use Rattle.lf_app.specs.declared.commands.Command.TheVariants.{Lines, Readable, Witness, Show, Generate, Refuse}
use Rattle.lf_app.specs.declared.commands.Job.{Job}
use Rattle.lf_app.specs.declared.commands.Job.TheVariants as jobs
use Rattle.lf_app.specs.declared.commands.Refusal.{Refusal}
use Rattle.lf_app.specs.declared.commands.Refusal.TheVariants as refusals
use Rattle.lf_app.specs.declared.report.Report.{Report}
use Rattle.lf_app.specs.declared.verdict.Verdict.{Verdict}
use Rattle.lf_stream.specs.Marks.{IsBody}
use Rattle.lf_stream.specs.declared.marks.Body.{Body}
use Rattle.lf_app.specs.Verdicts.{IsVerdict, AreVerdicts, has_notes, out_text, err_text, any_listed}

-- What was fed is this stream, which has ended or not, and what is reported is as many lines of it as were given.
pub record Holds (job : Job) (over : Bool) (lines : Cutter) (report : Report) (stream : List ℕ) (found : List Verdict) : Type 0 where
  pub notes : may_have_notes lines ≡ has_notes job
  pub over_is : is_finished lines ≡ over
  pub stands : Stands lines stream (length found)
  pub count : report.count ≡ length found

-- Some of the lines that are known are read, and this is what was found of them.
pub record IsReading (job : Job) (over : Bool) (lines : Cutter) (report : Report) (stream : List ℕ) (found : List Verdict) : Type 0 where
  pub holds : Holds job over lines report stream found
  pub given : List (List ℕ)
  pub later : List (List ℕ)
  pub known : known_lines over (has_notes job) stream ≡ given ++ later
  pub verdicts : AreVerdicts job given found

-- All lines that are known are read, and this is what was found of them.
pub record HasRead (job : Job) (over : Bool) (lines : Cutter) (report : Report) (stream : List ℕ) (found : List Verdict) : Type 0 where
  pub holds : Holds job over lines report stream found
  pub verdicts : AreVerdicts job (known_lines over (has_notes job) stream) found
  pub room : least_room ≤ room_of lines

-- Some stream is being read.
abbrev pub IsBegun : Job → Cutter → Report → Type 0
IsBegun job lines report = (over : Bool) × (stream : List ℕ) × (found : List Verdict) × IsReading job over lines report stream found

-- The lines of some stream are read that hasn't ended.
abbrev pub IsOpen : Job → Cutter → Report → Type 0
IsOpen job lines report = (stream : List ℕ) × (found : List Verdict) × HasRead job false lines report stream found

-- The report has grown by what was found of more lines, which are numbered from n on.
pub record Reports (job : Job) (old new : Report) (n : ℕ) (more : List Verdict) : Type 0 where
  pub listed : new.is_partial ≡ (old.is_partial || any_listed more)
  pub out : new.out ≡ old.out ++ out_text job more
  pub err : new.err ≡ old.err ++ err_text n more

-- Whatever line it is that this is told of, the report has grown by a verdict of it, at this number.
abbrev pub Says : Job → Body → ℕ → Report → Report → Type 0
Says job body n old new = (line : List ℕ) → IsBody (has_notes job) line body → (v : Verdict) × IsVerdict job line v × Reports job old new n (v ∷ [])

-- Nothing more is to be written.
pub record SameTexts (old new : Report) : Type 0 where
  pub listed : new.is_partial ≡ old.is_partial
  pub out : new.out ≡ old.out
  pub err : new.err ≡ old.err

-- The line was scanned, and the report has grown by its record; or it wasn't, and nothing more is to be written.
abbrev pub IsScanned : Job → Body → ℕ → Report → Report → Bool → Type 0
IsScanned job body n old new true = Says job body n old new × (new.count ≡ n)
IsScanned job body n old new false = SameTexts old new

-- More lines were read, and the report has grown by what was found of them.
pub record ReadsOn (job : Job) (over : Bool) (lines : Cutter) (old new : Report) (stream : List ℕ) (found : List Verdict) : Type 0 where
  pub more : List Verdict
  pub reading : IsReading job over lines new stream (found ++ more)
  pub reports : Reports job old new (length found + 1) more

-- All further lines were read, and the report has grown by what was found of them.
pub record Grows (job : Job) (over : Bool) (lines : Cutter) (old new : Report) (stream : List ℕ) (found : List Verdict) : Type 0 where
  pub more : List Verdict
  pub read : HasRead job over lines new stream (found ++ more)
  pub reports : Reports job old new (length found + 1) more

-- A line more was read where there was one, and else all were.
abbrev pub ReadsNext : Bool → Job → Bool → Cutter → Report → Report → List ℕ → List Verdict → Type 0
ReadsNext is_some job over lines old new stream found =
    cond is_some ((v : Verdict) × IsReading job over lines new stream (found ++ v ∷ []) × Reports job old new (length found + 1) (v ∷ [])) (HasRead job over lines new stream found × (new ≡ old))

-- What the work needs of its format: to read lines, it is readable.
abbrev pub CanWork : Job → Type 0
CanWork (jobs.Read format) = IsReadable format.pieces
CanWork (jobs.Write format) = Unit {0}
CanWork (jobs.Translate plan) = IsReadable plan.source.pieces

-- The records of a confusion have a JSON text.
pub record HasRecords (confusion : Confusion) : Type 0 where
  pub first : All HasJson confusion.first
  pub second : All HasJson confusion.second

-- What is said of the refusal can be written: records that it shows have a JSON text.
abbrev pub CanTell : Refusal → Type 0
CanTell refusals.BadWords = Unit {0}
CanTell (refusals.BadFormat which place cause) = Unit {0}
CanTell (refusals.BadNarrowing which fault) = Unit {0}
CanTell (refusals.BadMap fault) = Unit {0}
CanTell (refusals.TooLarge size) = Unit {0}
CanTell (refusals.NoteLine rec) = All HasJson rec
CanTell (refusals.Confused confusion) = HasRecords confusion

-- The command can be done: its lines can be worked on, and records that it shows have a JSON text.
abbrev pub IsReady : Command → Type 0
IsReady (Lines job) = CanWork job
IsReady (Readable slots) = Unit {0}
IsReady (Witness confusion) = HasRecords confusion
IsReady (Show format) = Unit {0}
IsReady (Generate format seed count) = Unit {0}
IsReady (Refuse refusal) = CanTell refusal
