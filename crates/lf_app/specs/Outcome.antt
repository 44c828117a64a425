-- The outcome of a command on an input.
use Rattle.std.specs.Prelude.{◌≡◌, ℕ, ◌+◌, cond, List, [], ◌∷◌, ◌++◌, codes}
use Rattle.std.specs.Fmt.{decimal}
use Rattle.lf_limits.specs.Limits.{most_size}
use Rattle.lf_format.specs.Keeps.{slots_in}
use Rattle.lf_format.specs.Kinds.{value_kind}
use Rattle.lf_format.specs.Shape.{Shape}
use Rattle.lf_map.specs.declared.fault.MapFault.{MapFault}
use Rattle.lf_map.specs.declared.fault.MapFault.TheVariants as map_fault
use Rattle.lf_narrow.specs.declared.fault.NarrowFault.{NarrowFault}
use Rattle.lf_narrow.specs.declared.fault.NarrowFault.TheVariants as fault
use Rattle.lf_spelling.specs.declared.fault.Cause.{Cause}
use Rattle.lf_spelling.specs.declared.fault.Cause.TheVariants as cause
use Rattle.lf_format.specs.declared.kind.ValueKind.{ValueKind}
use Rattle.lf_format.specs.declared.kind.ValueKind.TheVariants as sort
use Rattle.lf_format.specs.declared.slot.Absent.{Absent}
use Rattle.lf_format.specs.declared.slot.Absent.TheVariants as absent
use Rattle.lf_format.specs.declared.slot.Slot.{Slot}
use Rattle.lf_app.specs.Statuses as statuses
use Rattle.lf_app.specs.declared.commands.Command.{Command}
use Rattle.lf_app.specs.declared.commands.Command.TheVariants.{Lines, Readable, Witness, Show, Generate, Refuse}
use Rattle.lf_app.specs.declared.commands.Job.{Job}
use Rattle.lf_app.specs.declared.commands.Refusal.{Refusal}
use Rattle.lf_app.specs.declared.commands.Refusal.TheVariants.{BadWords, BadFormat, BadNarrowing, BadMap, TooLarge, NoteLine, Confused}
use Rattle.lf_app.specs.declared.commands.WhichSide.{WhichSide}
use Rattle.lf_app.specs.declared.commands.WhichSide.TheVariants.{Source, Target}
use Rattle.lf_compile.specs.declared.refused.Confusion.{Confusion}
use Rattle.lf_json.specs.Text.{json_text, text_json}
use Rattle.lf_stream.specs.Cut.{lines_of}
use Rattle.lf_app.specs.declared.verdict.Verdict.{Verdict}
use Rattle.lf_log.specs.Generated.{IsSummary}
use Rattle.lf_app.specs.Verdicts.{AreVerdicts, has_notes, out_text, err_text, any_listed}

-- a status, and what `out` and `err` get
pub record Outcome : Type 0 where
  pub status : ℕ
  pub out : List ℕ
  pub err : List ℕ

-- the name of a cause
abbrev pub cause_text : Cause → List ℕ
cause_text cause.UnknownName = codes "UnknownName"
cause_text cause.BadName = codes "BadName"
cause_text cause.Unclosed = codes "Unclosed"
cause_text cause.BadFlags = codes "BadFlags"
cause_text cause.BadLength = codes "BadLength"
cause_text cause.LineBreak = codes "LineBreak"
cause_text cause.EmptyFormat = codes "EmptyFormat"
cause_text cause.TooManySlots = codes "TooManySlots"

-- what is said of a narrowing's fault
abbrev pub fault_text : NarrowFault → List ℕ
fault_text (fault.Syntax place) = codes "Syntax at " ++ decimal place
fault_text (fault.NoSlot k) = codes "NoSlot s" ++ decimal k
fault_text (fault.WrongKind k) = codes "WrongKind s" ++ decimal k
fault_text (fault.Empty k) = codes "Empty s" ++ decimal k
fault_text fault.OutOfMemory = []

-- what is said of a map's fault
abbrev pub map_fault_text : MapFault → List ℕ
map_fault_text (map_fault.Syntax place) = codes "Syntax at " ++ decimal place
map_fault_text (map_fault.NoSlot k) = codes "NoSlot s" ++ decimal k
map_fault_text (map_fault.Twice k) = codes "Twice s" ++ decimal k
map_fault_text (map_fault.Untyped k) = codes "Untyped s" ++ decimal k
map_fault_text (map_fault.Unfilled k) = codes "Unfilled s" ++ decimal k
map_fault_text map_fault.OutOfMemory = []

-- the word for a side
abbrev pub side_text : WhichSide → List ℕ
side_text Source = codes "source"
side_text Target = codes "target"

-- the lines that show two records of one line, without the last line feed
abbrev pub witness_text : Confusion → List ℕ
witness_text c =
    codes "ambiguous\nline " ++ text_json c.line ++ codes "\nfirst " ++ json_text c.first ++ codes "\nsecond " ++ json_text c.second

-- what is said of a refusal, without its line feed
abbrev pub refusal_text : Refusal → List ℕ
refusal_text BadWords = codes "logfmt: bad command line"
refusal_text (BadFormat which place why) = codes "logfmt: " ++ side_text which ++ codes " format: " ++ cause_text why ++ codes " at " ++ decimal place
refusal_text (BadNarrowing which why) = codes "logfmt: " ++ side_text which ++ codes " narrowing: " ++ fault_text why
refusal_text (BadMap why) = codes "logfmt: map: " ++ map_fault_text why
refusal_text (TooLarge size) = codes "logfmt: size " ++ decimal size ++ codes " over " ++ decimal most_size
refusal_text (NoteLine rec) = codes "logfmt: note line: " ++ json_text rec
refusal_text (Confused confusion) = witness_text confusion

-- the status of a refusal
abbrev pub refusal_status : Refusal → ℕ
refusal_status (TooLarge size) = statuses.too_large
refusal_status (Confused confusion) = statuses.ambiguous
refusal_status BadWords = statuses.usage
refusal_status (BadFormat which place why) = statuses.usage
refusal_status (BadNarrowing which why) = statuses.usage
refusal_status (BadMap why) = statuses.usage
refusal_status (NoteLine rec) = statuses.usage

-- an outcome that only writes a line on `err`
abbrev pub told_err : ℕ → List ℕ → Outcome
told_err status text = record { status = status; out = []; err = text ++ 10 ∷ [] }

-- an outcome that only writes a line on `out`
abbrev pub told_out : ℕ → List ℕ → Outcome
told_out status text = record { status = status; out = text ++ 10 ∷ []; err = [] }

-- the word for a sort of values
abbrev pub kind_text : ValueKind → List ℕ
kind_text sort.Number = codes "number"
kind_text sort.Text = codes "text"
kind_text sort.Moment = codes "moment"
kind_text sort.Day = codes "day"
kind_text sort.Clock = codes "clock"

-- the word for how a missing value is printed
abbrev pub absent_text : Absent → List ℕ
absent_text absent.No = codes "no"
absent_text absent.Dash = codes "dash"
absent_text absent.DashTwo = codes "dash-two"
absent_text absent.Blank = codes "blank"

-- what is shown of the slot of this number: number, name, sort of values, and how a missing one is printed
abbrev pub slot_line : ℕ → Slot → List ℕ
slot_line k slot = (115 ∷ decimal k) ++ (32 ∷ slot.name) ++ (32 ∷ kind_text (value_kind slot.kind)) ++ (32 ∷ absent_text slot.absent) ++ 10 ∷ []

-- what is shown of slots that are numbered from k on
abbrev pub slot_lines : ℕ → List Slot → List ℕ
slot_lines k [] = []
slot_lines k (slot ∷ slots) = slot_line k slot ++ slot_lines (k + 1) slots

-- what is shown of a format
abbrev pub shown : Shape → Outcome
shown format = record { status = statuses.done; out = slot_lines 1 (slots_in format.pieces); err = [] }

-- the outcome of lines of these verdicts
abbrev pub outcome_of : Job → List Verdict → Outcome
outcome_of job verdicts = record { status = cond (any_listed verdicts) statuses.partial statuses.done; out = out_text job verdicts; err = err_text 1 verdicts }

-- The command on this input has this outcome.
abbrev pub HasOutcome : Command → List ℕ → Outcome → Type 0
HasOutcome (Lines job) input o = (verdicts : List Verdict) × AreVerdicts job (lines_of (has_notes job) input) verdicts × (o ≡ outcome_of job verdicts)
HasOutcome (Readable slots) input o = o ≡ told_out statuses.done (codes "readable " ++ decimal slots)
HasOutcome (Witness confusion) input o = o ≡ told_out statuses.ambiguous (witness_text confusion)
HasOutcome (Show format) input o = o ≡ shown format
HasOutcome (Generate format seed count) input o = (text : List ℕ) × IsSummary format seed count text × (o ≡ told_out statuses.done text)
HasOutcome (Refuse refusal) input o = o ≡ told_err (refusal_status refusal) (refusal_text refusal)

-- The command on this input has one outcome and no other.
pub record HasOneOutcome (command : Command) (input : List ℕ) : Type 0 where
  pub outcome : Outcome
  pub has : HasOutcome command input outcome
  pub only : (other : Outcome) → HasOutcome command input other → other ≡ outcome
