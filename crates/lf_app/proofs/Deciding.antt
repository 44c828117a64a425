-- Each line has a verdict, and a command one outcome.
use Rattle.std.proofs.Common.{◌≡◌, ℕ, List, [], ◌∷◌, refl, ◌∙◌, ap, ◌⊎◌, inl, inr}
use Rattle.std.specs.Prelude.{Result, Ok, Err}
use Rattle.lf_core.specs.declared.values.Value.{Value}
use Rattle.lf_format.specs.Shape.{Shape}
use Rattle.lf_format.specs.Lines.{Prints, PrintsNone, line_text}
use Rattle.lf_format.specs.declared.format.Piece.{Piece}
use Rattle.lf_format.specs.Keeps.{EachKept}
use Rattle.lf_expression.specs.Exprs.{Expr}
use Rattle.lf_map.specs.Filling.{ParsesMap}
use Rattle.lf_map.specs.Mapped.{Mapped, Makes}
use Rattle.lf_map.specs.Mapped as mapped
use Rattle.lf_machine.specs.LineBytes.{LiteralsAreBytes}
use Rattle.lf_json.specs.Reading.{ReadsJson}
use Rattle.lf_json.specs.declared.bad_record.BadRecord.{BadRecord}
use Rattle.lf_stream.specs.Cut.{lines_of}
use Rattle.lf_stream.specs.Sorts.{sort_of}
use Rattle.lf_stream.specs.declared.marks.Sort.{Sort}
use Rattle.lf_stream.specs.declared.marks.Sort.TheVariants as sort
use Rattle.lf_app.specs.declared.commands.Command.{Command}
use Rattle.lf_app.specs.declared.commands.Command.TheVariants.{Lines, Readable, Witness, Show, Generate, Refuse}
use Rattle.lf_app.specs.declared.commands.Job.{Job}
use Rattle.lf_app.specs.declared.commands.Job.TheVariants as jobs
use Rattle.lf_app.specs.declared.verdict.Finding.{Finding}
use Rattle.lf_app.specs.declared.verdict.Finding.TheVariants as finding
use Rattle.lf_app.specs.declared.verdict.Verdict.{Verdict}
use Rattle.lf_app.specs.declared.verdict.Verdict.TheVariants as verdict
use Rattle.lf_app.specs.Commands.{IsCommand}
use Rattle.lf_app.specs.Outcome.{Outcome, outcome_of, shown, HasOneOutcome}
use Rattle.lf_app.specs.Progress.{CanWork}
use Rattle.lf_translate.specs.Translations.{Plan, TurnsTo}
use Rattle.lf_app.specs.Verdicts.{has_notes, IsFound, IsVerdict, AreVerdicts}
use Rattle.lf_app.proofs.VerdictLaws.{one_verdict}
use Rattle.lf_app.proofs.CommandLaws.{FormatsAreWords, KeepsBytes, command_ready, command_keeps}
use Rattle.lf_app.proofs.SideLaws.{SpelledKeeps, ToldKeeps, NarrowedKeeps}
use Rattle.lf_log.proofs.Drawing.{DrawsOne, DrawsSome, one_summary, some_summary}
use Rattle.lf_app.proofs.Drawing.{told_generated}
use Rattle.lf_app.proofs.RunLaws.{IsTold, told_readable, told_witness, told_shown, told_refused}

abbrev pub LinesAreRead : Type 0
LinesAreRead = (pieces : List Piece) (line : List ℕ) → (answer : Result (List Value) BadRecord) × ReadsJson pieces line answer

abbrev pub LinesAreDecided : Type 0
LinesAreDecided = (pieces : List Piece) → EachKept pieces → LiteralsAreBytes pieces → (line : List ℕ) → ((rec : List Value) × Prints pieces rec line) ⊎ PrintsNone pieces line

-- A map makes something of each record.
abbrev pub MapsMake : Type 0
MapsMake = (text : List ℕ) (source target : Shape) (exprs : List Expr) → ParsesMap text source target (Ok exprs) → (rec : List Value) → (answer : Mapped) × Makes target.pieces exprs rec answer

found_turned : (plan : Plan) (line : List ℕ) (made : Mapped) → TurnsTo plan line made → (f : Finding) × IsFound (jobs.Translate plan) line f
found_turned plan line (mapped.Rec made) h = (finding.Turned (line_text plan.target.pieces made), (made, h, refl))
found_turned plan line (mapped.Unmapped k) h = (finding.Unmapped k, h)

found_written : (format : Shape) (line : List ℕ) (answer : Result (List Value) BadRecord) → ReadsJson format.pieces line answer → (f : Finding) × IsFound (jobs.Write format) line f
found_written format line (Ok r) h = (finding.Given r, h)
found_written format line (Err bad) h = (finding.Bad bad, h)

some_finding : (job : Job) (line : List ℕ) → LinesAreRead → LinesAreDecided → MapsMake → KeepsBytes (Lines job) → (f : Finding) × IsFound job line f
some_finding (jobs.Read format) line reads decided makes kept = elim (decided format.pieces kept.0 kept.1 line) [
  | inl found ↦ (finding.Read found.0, found.1)
  | inr none ↦ (finding.Unread, none)
]
some_finding (jobs.Translate plan) line reads decided makes turns = elim (decided plan.source.pieces turns.kept.0 turns.kept.1 line) [
  | inl found ↦
      let made = makes plan.map plan.source plan.target turns.exprs turns.maps found.0 in
      found_turned plan line made.0 (record { read = found.0; prints = found.1; exprs = turns.exprs; maps = turns.maps; makes = made.1 })
  | inr none ↦ (finding.Unread, none)
]
some_finding (jobs.Write format) line reads decided makes kept = let read = reads format.pieces line in found_written format line read.0 read.1

verdict_by_sort : (job : Job) (line : List ℕ) (s : Sort) → sort_of (has_notes job) line ≡ s → (f : Finding) → IsFound job line f → (v : Verdict) × IsVerdict job line v
verdict_by_sort job line sort.Line is f found = (verdict.Found f, (is, found))
verdict_by_sort job line sort.Note is f found = (verdict.Note, is)
verdict_by_sort job line sort.Long is f found = (verdict.Long, is)

some_verdict : (job : Job) (line : List ℕ) → LinesAreRead → LinesAreDecided → MapsMake → KeepsBytes (Lines job) → (v : Verdict) × IsVerdict job line v
some_verdict job line reads decided makes kept =
    let found = some_finding job line reads decided makes kept in
    verdict_by_sort job line (sort_of (has_notes job) line) refl found.0 found.1

some_verdicts : (job : Job) (lines : List (List ℕ)) → LinesAreRead → LinesAreDecided → MapsMake → KeepsBytes (Lines job) → (vs : List Verdict) × AreVerdicts job lines vs
some_verdicts job [] reads decided makes kept = ([], tt)
some_verdicts job (line ∷ lines) reads decided makes kept =
    let v = some_verdict job line reads decided makes kept in
    let vs = some_verdicts job lines reads decided makes kept in
    (v.0 ∷ vs.0, (v.1, vs.1))

same_verdicts : (job : Job) (lines : List (List ℕ)) (vs ws : List Verdict) → CanWork job → AreVerdicts job lines vs → AreVerdicts job lines ws → vs ≡ ws
same_verdicts job [] [] [] can p q = refl
same_verdicts job [] [] (w ∷ ws) can p q = absurd q
same_verdicts job [] (v ∷ vs) ws can p q = absurd p
same_verdicts job (line ∷ lines) [] ws can p q = absurd p
same_verdicts job (line ∷ lines) (v ∷ vs) [] can p q = absurd q
same_verdicts job (line ∷ lines) (v ∷ vs) (w ∷ ws) can p q =
    let first = one_verdict job line v w can p.0 q.0 in
    let rest = same_verdicts job lines vs ws can p.1 q.1 in
    cc

told_once : (c : Command) (input : List ℕ) (o : Outcome) → IsTold c o → HasOneOutcome c input
told_once c input o told = record { outcome = o; has = told.has input; only = told.only input }

pub one_outcome : (words : List (List ℕ)) (command : Command) (input : List ℕ) → LinesAreRead → LinesAreDecided → MapsMake → DrawsOne → DrawsSome → FormatsAreWords → SpelledKeeps → ToldKeeps → NarrowedKeeps → IsCommand words command → HasOneOutcome command input
one_outcome words (Readable slots) input reads decided makes once draws formats spelled told narrowed is = told_once (Readable slots) input _ (told_readable slots)
one_outcome words (Witness confusion) input reads decided makes once draws formats spelled told narrowed is = told_once (Witness confusion) input _ (told_witness confusion)
one_outcome words (Show format) input reads decided makes once draws formats spelled told narrowed is = told_once (Show format) input (shown format) (told_shown format)
one_outcome words (Generate format seed count) input reads decided makes once draws formats spelled told narrowed is =
    let kept = command_keeps words (Generate format seed count) formats spelled told narrowed is in
    let some = some_summary draws format seed count kept.0 in
    told_once (Generate format seed count) input _ (told_generated format seed count some.0 some.1 (one_summary once format seed count))
one_outcome words (Refuse refusal) input reads decided makes once draws formats spelled told narrowed is = told_once (Refuse refusal) input _ (told_refused refusal)
one_outcome words (Lines job) input reads decided makes once draws formats spelled told narrowed is =
    let kept = command_keeps words (Lines job) formats spelled told narrowed is in
    let ready = command_ready words (Lines job) is in
    let found = some_verdicts job (lines_of (has_notes job) input) reads decided makes kept in
    record {
      outcome = outcome_of job found.0;
      has = (found.0, found.1, refl);
      only = λ other h. h.2 ∙ ap (outcome_of job) (same_verdicts job (lines_of (has_notes job) input) h.0 found.0 ready h.1 found.1);
    }
