-- What the calls that write the report do.
use Rattle.std.specs.Prelude.{◌≡◌, ℕ, ◌≤◌, ◌⊎◌, false, List, [], length, Option, Result, MatchResult}
use Rattle.lf_stream.specs.declared.lines.Lines.{Lines as Cutter}
use Rattle.lf_app.specs.declared.commands.Job.{Job}
use Rattle.lf_io.specs.Faults.{Rose}
use Rattle.lf_io.specs.Moves.{Takes}
use Rattle.lf_io.specs.declared.sink.Put.{Put}
use Rattle.lf_io.specs.declared.sink.Put.TheVariants as put
use Rattle.lf_app.specs.declared.verdict.Verdict.{Verdict}
use Rattle.lf_app.specs.declared.report.Report.{Report}
use Rattle.lf_app.specs.declared.status.Status.{Status}
use Rattle.lf_limits.specs.Limits.{most_run_bytes}
use Rattle.lf_app.specs.Verdicts.{out_text, err_text, any_listed}
use Rattle.lf_app.specs.Progress.{HasRead}
use Rattle.lf_app.specs.declared.commands.Command.TheVariants.{Lines}
use Rattle.lf_app.specs.Run.{WritesPart}
use Rattle.lf_app.specs.Promise.{Runs}

-- Both texts were appended and the report is empty, or prefixes of them were appended.
abbrev pub Flushes : Report → Report → (List ℕ → Type 0) → (List ℕ → Type 0) → Put → Type 0
Flushes old new out err put.Done = out old.out × err old.err × (new ≡ record old { out = []; err = [] })
Flushes old new out err put.Failed = WritesPart old.out out × WritesPart old.err err

-- Two sinks' counts never fall, one rose where a failure is answered, and both stay where none is.
pub record HasCauses (out_before out_now err_before err_now : ℕ) (failed : Type 0) : Type 0 where
  pub out_later : out_before ≤ out_now
  pub err_later : err_before ≤ err_now
  pub cause : failed → Rose out_before out_now ⊎ Rose err_before err_now
  pub kept : (failed → ⊥) → (out_now ≡ out_before) × (err_now ≡ err_before)

-- Bytes were taken, and all that was found of their whole lines is written.
pub record Follows (job : Job) (lines : Cutter) (report : Report) (left later : Option (List ℕ)) (wrote_out wrote_err : List ℕ → Type 0) : Type 0 where
  pub taken : List ℕ
  pub found : List Verdict
  pub read : HasRead job false lines report taken found
  pub takes : Takes left later taken
  pub most : length taken ≤ most_run_bytes
  pub listed : report.is_partial ≡ any_listed found
  pub no_out : report.out ≡ []
  pub no_err : report.err ≡ []
  pub out : wrote_out (out_text job found)
  pub err : wrote_err (err_text 1 found)

-- The reading goes on, or the run ends with this status.
abbrev pub GoesOn : Result (Unit {0}) Status → Job → Cutter → Report → Option (List ℕ) → Option (List ℕ) → (List ℕ → Type 0) → (List ℕ → Type 0) → Type 0
GoesOn result job lines report left later out err =
    MatchResult result (λ _. Follows job lines report left later out err) (λ status. Runs (Lines job) status.0 left later out err)
