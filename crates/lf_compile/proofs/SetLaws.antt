-- A machine and the one that is written out reach the same sets of points.
use Rattle.std.proofs.Common.{◌≡◌, ℕ, List, Option, None, Some, ◌↔◌, ◌∙◌, subst, sym}
use Rattle.std.specs.Prelude.{MatchOption}
use Rattle.lf_core.specs.declared.marked.Move.{Move}
use Rattle.lf_core.specs.Marked.{Machine, IsMachine, IsWholeRun}
use Rattle.lf_core.specs.Written.{WrittenMachine, machine_of, written}
use Rattle.lf_core.specs.WrittenLaws.{written_run, run_written, same_whole_runs}
use Rattle.lf_tables.specs.Reached.{Reaches, ReachesMoreSets}

reach_same : (m : Machine) (line : List ℕ) (p : ℕ) → IsMachine m → Reaches m line p ↔ Reaches (machine_of (written m)) line p
reach_same m line p lawful = (
  λ h. (h.0, written_run m m.first line h.0 lawful lawful.begins h.1, h.2),
  λ h. (h.0, run_written m m.first line h.0 lawful lawful.begins h.1, h.2),
)

pub written_sets : (m : Machine) (many : ℕ) → IsMachine m → ReachesMoreSets m many → ReachesMoreSets (machine_of (written m)) many
written_sets m many lawful more = record {
  line = more.line;
  bytes = more.bytes;
  apart = λ i j lt low same. more.apart i j lt low (λ p.
      let left = reach_same m (more.line i) p lawful in
      let right = reach_same m (more.line j) p lawful in
      (λ h. right.1 ((same p).0 (left.0 h)), λ h. left.1 ((same p).1 (right.0 h))));
}

pub sets_written : (m : Machine) (many : ℕ) → IsMachine m → ReachesMoreSets (machine_of (written m)) many → ReachesMoreSets m many
sets_written m many lawful more = record {
  line = more.line;
  bytes = more.bytes;
  apart = λ i j lt low same. more.apart i j lt low (λ p.
      let left = reach_same m (more.line i) p lawful in
      let right = reach_same m (more.line j) p lawful in
      (λ h. right.0 ((same p).0 (left.1 h)), λ h. left.0 ((same p).1 (right.1 h))));
}

-- tables of the machine that is written out are those of the machine
pub built_tables : (m : Machine) (many : ℕ) (table : WrittenMachine) (tables : Option WrittenMachine) → IsMachine m → table ≡ written m → MatchOption tables (ReachesMoreSets (machine_of table) many) (λ t. (t ≡ table) × (ReachesMoreSets (machine_of table) many → ⊥)) → MatchOption tables (ReachesMoreSets m many) (λ t. (t ≡ written m) × (ReachesMoreSets m many → ⊥))
built_tables m many table None lawful is more = sets_written m many lawful (subst (λ (w : WrittenMachine). ReachesMoreSets (machine_of w) many) is more)
built_tables m many table (Some t) lawful is few = (few.0 ∙ is, λ more. few.1 (subst (λ (w : WrittenMachine). ReachesMoreSets (machine_of w) many) (sym is) (written_sets m many lawful more)))

-- what is found by such tables is a run of the machine
pub found_run : (m : Machine) (tables : WrittenMachine) (line : List ℕ) (found : Option (List Move)) → IsMachine m → tables ≡ written m → MatchOption found ((run : List Move) → IsWholeRun (machine_of tables) line run → ⊥) (λ run. IsWholeRun (machine_of tables) line run) → MatchOption found ((run : List Move) → IsWholeRun m line run → ⊥) (λ run. IsWholeRun m line run)
found_run m tables line None lawful is none = λ run whole. none run (subst (λ (w : WrittenMachine). IsWholeRun (machine_of w) line run) (sym is) ((same_whole_runs m line run lawful).0 whole))
found_run m tables line (Some run) lawful is whole = (same_whole_runs m line run lawful).1 (subst (λ (w : WrittenMachine). IsWholeRun (machine_of w) line run) is whole)
