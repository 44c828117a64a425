-- What a run promises, clause by clause. `left` and `later` are what the source has left before and after, where it tells;
-- `out` and `err` say which text was appended to each sink.
use Rattle.std.specs.Prelude.{◌≡◌, ℕ, ◌<◌, ◌≤◌, List, length, Option, Some, ◌⊎◌}
use Rattle.lf_core.specs.Adds.{BeginsWith}
use Rattle.lf_io.specs.Moves.{Takes, IsAtEnd}
use Rattle.lf_io.specs.Faults.{Rose}
use Rattle.lf_stream.specs.Cut.{whole_part}
use Rattle.lf_limits.specs.Limits.{most_run_bytes}
use Rattle.lf_app.specs.Statuses as statuses
use Rattle.lf_app.specs.declared.commands.Command.{Command}
use Rattle.lf_app.specs.Commands.{TakesInput}
use Rattle.lf_app.specs.Outcome.{Outcome, HasOutcome}

-- Done, Ambiguous, Usage, Partial and TooLarge: the run came to its end.
abbrev pub IsFinal : ℕ → Type 0
IsFinal status = (status ≤ statuses.partial) ⊎ (status ≡ statuses.too_large)

-- The source tells that its bytes are these, or the command takes none of them.
abbrev pub Reads : Command → Option (List ℕ) → List ℕ → Type 0
Reads command left input = (left ≡ Some input) ⊎ (TakesInput command → ⊥)

-- Status and both texts are an outcome's.
pub record Ends (command : Command) (status : ℕ) (input : List ℕ) (out err : List ℕ → Type 0) : Type 0 where
  pub outcome : Outcome
  pub has : HasOutcome command input outcome
  pub status_is : status ≡ outcome.status
  pub wrote_out : out outcome.out
  pub wrote_err : err outcome.err

-- `settled`: at a final status, status and texts are the outcome's, and an input that the command takes from is at its end.
pub record IsSettled (command : Command) (status : ℕ) (left later : Option (List ℕ)) (out err : List ℕ → Type 0) : Type 0 where
  pub ends : IsFinal status → (input : List ℕ) → Reads command left input → Ends command status input out err
  pub at_end : IsFinal status → TakesInput command → IsAtEnd later

-- SourceFault and Endless: the stream of input was cut.
abbrev pub IsCut : ℕ → Type 0
IsCut status = (status ≡ statuses.source_fault) ⊎ (status ≡ statuses.endless)

-- Both texts are those of the outcome on the whole lines among the bytes taken.
pub record WritesWholeLines (command : Command) (taken : List ℕ) (out err : List ℕ → Type 0) : Type 0 where
  pub outcome : Outcome
  pub has : HasOutcome command (whole_part taken) outcome
  pub wrote_out : out outcome.out
  pub wrote_err : err outcome.err

-- `cut_stream`: a stream is cut only under a command that takes input, and only by a fault of the source or at the
-- `most_run_bytes`-th byte; its whole lines are written. At every other status the source had no fault.
pub record IsCutStream (command : Command) (status : ℕ) (left later : Option (List ℕ)) (faults_before faults_now : ℕ) (out err : List ℕ → Type 0) : Type 0 where
  pub reads : IsCut status → TakesInput command
  pub fault : status ≡ statuses.source_fault → Rose faults_before faults_now
  pub no_fault : (status ≡ statuses.source_fault → ⊥) → faults_now ≡ faults_before
  pub taken : List ℕ
  pub takes : Takes left later taken
  pub most : length taken ≤ most_run_bytes
  pub full : length taken ≡ most_run_bytes → (status ≡ statuses.sink_fault) ⊎ (status ≡ statuses.no_memory) ⊎ (status ≡ statuses.endless)
  pub endless : status ≡ statuses.endless → length taken ≡ most_run_bytes
  pub whole_lines : IsCut status → WritesWholeLines command taken out err

-- A prefix of the text was appended.
abbrev pub WritesPart : List ℕ → (List ℕ → Type 0) → Type 0
WritesPart text appended = (part : List ℕ) × BeginsWith text part × appended part

-- Of each outcome's texts, prefixes were appended.
abbrev pub WritesParts : Command → Option (List ℕ) → (List ℕ → Type 0) → (List ℕ → Type 0) → Type 0
WritesParts command left out err =
    (input : List ℕ) → Reads command left input → (o : Outcome) → HasOutcome command input o → WritesPart o.out out × WritesPart o.err err

-- `sink_fault`: SinkFault comes only where the faults of a sink rose, and prefixes of the texts are written. At
-- every other status no sink had a fault.
pub record IsSinkFault (command : Command) (status : ℕ) (left : Option (List ℕ)) (out_before out_now err_before err_now : ℕ) (out err : List ℕ → Type 0) : Type 0 where
  pub cause : status ≡ statuses.sink_fault → Rose out_before out_now ⊎ Rose err_before err_now
  pub no_fault : (status ≡ statuses.sink_fault → ⊥) → (out_now ≡ out_before) × (err_now ≡ err_before)
  pub fronts : status ≡ statuses.sink_fault → WritesParts command left out err

-- `no_memory`: at NoMemory prefixes of the texts are written.
abbrev pub IsNoMemory : Command → ℕ → Option (List ℕ) → (List ℕ → Type 0) → (List ℕ → Type 0) → Type 0
IsNoMemory command status left out err = status ≡ statuses.no_memory → WritesParts command left out err

-- The status is that of the command's outcome on the input.
pub record HasStatus (command : Command) (input : List ℕ) (status : ℕ) : Type 0 where
  pub outcome : Outcome
  pub has : HasOutcome command input outcome
  pub status_is : status ≡ outcome.status

-- `complete`: on an input of fewer than `most_run_bytes` bytes the status is the outcome's, or NoMemory.
-- The clause of `run` asks it only where no count of faults rose.
abbrev pub IsComplete : Command → ℕ → Option (List ℕ) → Type 0
IsComplete command status left =
    (input : List ℕ) → Reads command left input → length input < most_run_bytes → HasStatus command input status ⊎ (status ≡ statuses.no_memory)
