-- All that a run does, in one record: each clause of `run` is a part of it.
use Rattle.std.specs.Prelude.{◌≡◌, ℕ, ◌≤◌, List, [], length, Option, ◌⊎◌, Result, Ok, Err}
use Rattle.lf_core.specs.declared.memory.OutOfMemory.{OutOfMemory}
use Rattle.lf_io.specs.Faults.{Rose}
use Rattle.lf_io.specs.Moves.{Takes}
use Rattle.lf_limits.specs.Limits.{most_run_bytes}
use Rattle.lf_app.specs.Statuses as statuses
use Rattle.lf_app.specs.declared.commands.Command.{Command}
use Rattle.lf_app.specs.Commands.{TakesInput}
use Rattle.lf_app.specs.Run.{IsSettled, IsCut, WritesWholeLines, WritesParts, WritesPart}

-- How many bytes were taken: no more than `most_run_bytes`, and so many only at the statuses 5, 6 and 8.
pub record KeepsLimit (command : Command) (status : ℕ) (left later : Option (List ℕ)) (out err : List ℕ → Type 0) : Type 0 where
  pub taken : List ℕ
  pub takes : Takes left later taken
  pub most : length taken ≤ most_run_bytes
  pub full : length taken ≡ most_run_bytes → (status ≡ statuses.sink_fault) ⊎ (status ≡ statuses.no_memory) ⊎ (status ≡ statuses.endless)
  pub endless : status ≡ statuses.endless → length taken ≡ most_run_bytes
  pub whole_lines : IsCut status → WritesWholeLines command taken out err

-- What a run of a command takes and writes.
pub record Runs (command : Command) (status : ℕ) (left later : Option (List ℕ)) (out err : List ℕ → Type 0) : Type 0 where
  pub settled : IsSettled command status left later out err
  pub reads : IsCut status → TakesInput command
  pub fronts : (status ≡ statuses.sink_fault) ⊎ (status ≡ statuses.no_memory) → WritesParts command left out err
  pub limit : KeepsLimit command status left later out err

-- The statuses that tell a fault come only where a count of faults rose, at the others the counts stay, and no other status than 0 to 8 comes.
pub record Tells (status : ℕ) (source_before source_now out_before out_now err_before err_now : ℕ) : Type 0 where
  pub source : status ≡ statuses.source_fault → Rose source_before source_now
  pub sink : status ≡ statuses.sink_fault → Rose out_before out_now ⊎ Rose err_before err_now
  pub known : status ≤ statuses.endless
  pub source_kept : (status ≡ statuses.source_fault → ⊥) → source_now ≡ source_before
  pub sinks_kept : (status ≡ statuses.sink_fault → ⊥) → (out_now ≡ out_before) × (err_now ≡ err_before)

-- At this good status the text was written, and else a prefix of it.
pub record Says (good status : ℕ) (text : List ℕ) (appended : List ℕ → Type 0) : Type 0 where
  pub whole : status ≡ good → appended text
  pub part : WritesPart text appended

-- A text that there was memory for was said; else nothing was written, at status 6.
abbrev pub TellsText : ℕ → ℕ → Result (List ℕ) OutOfMemory → (List ℕ → Type 0) → Type 0
TellsText good status (Ok text) appended = Says good status text appended × ((status ≡ good) ⊎ (status ≡ statuses.sink_fault))
TellsText good status (Err memory) appended = (status ≡ statuses.no_memory) × appended []
