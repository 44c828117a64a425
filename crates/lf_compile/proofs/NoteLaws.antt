-- The least line that begins with `#`, by runs and by records.
use Rattle.std.proofs.Common.{◌≡◌, ℕ, List, ◌∷◌, subst}
use Rattle.lf_core.specs.Marked.{Machine, IsMachine}
use Rattle.lf_core.specs.Written.{WrittenMachine, machine_of, written}
use Rattle.lf_core.specs.declared.marked.Move.{Move}
use Rattle.lf_core.specs.declared.values.Value.{Value}
use Rattle.lf_format.specs.declared.format.Piece.{Piece}
use Rattle.lf_machine.specs.RecordOrder.{KeepsOrder}
use Rattle.lf_machine.specs.Runs.{HasRuns, IsRecordOfRun}
use Rattle.lf_witness.specs.Heads.{HasNoHeaded, IsLeastHeaded}
use Rattle.lf_product.specs.Walk.{LineLe}
use Rattle.lf_witness.specs.WrittenLeast.{least_headed, no_headed}
use Rattle.lf_compile.specs.Confused.{IsLeastRecord}
use Rattle.lf_compile.specs.Notes.{HasNote, IsLeastNote}
use Rattle.lf_compile.proofs.RecordLaws.{whole_of, least_record}

-- Where no whole run stands on a line that begins with `#`, no record has such a line.
pub no_note : (pieces : List Piece) (m : Machine) (run : List Value → List Move) → HasRuns pieces m run → HasNoHeaded m 35 → HasNote pieces → ⊥
no_note pieces m run runs none note = none note.1 (run note.0) (whole_of pieces m run runs note.0 (35 ∷ note.1) note.2)

-- The least run of the least such line is the least record's.
pub least_note_is : (pieces : List Piece) (m : Machine) (run : List Value → List Move) → HasRuns pieces m run → KeepsOrder pieces run → (line : List ℕ) (moves : List Move) (rec : List Value) → IsLeastHeaded m 35 line moves → IsRecordOfRun pieces m run moves rec → IsLeastNote pieces rec
least_note_is pieces m run runs order line moves rec headed is = record {
  rest = headed.rest;
  on_line = subst (λ (bytes : List ℕ). IsLeastRecord pieces bytes rec) headed.begins (least_record pieces m run runs order line moves rec headed.least_run is);
  least = λ other more p. subst (λ (bytes : List ℕ). LineLe bytes (35 ∷ more)) headed.begins (headed.least_line more (run other) (whole_of pieces m run runs other (35 ∷ more) p));
}

-- The least such line of what is written out is the machine's.
pub headed_as : (m : Machine) (w : WrittenMachine) (line : List ℕ) (run : List Move) → IsMachine m → w ≡ written m → IsLeastHeaded (machine_of w) 35 line run → IsLeastHeaded m 35 line run
headed_as m w line run lawful is h = least_headed m 35 line run lawful (subst (λ (v : WrittenMachine). IsLeastHeaded (machine_of v) 35 line run) is h)

pub none_as : (m : Machine) (w : WrittenMachine) → IsMachine m → w ≡ written m → HasNoHeaded (machine_of w) 35 → HasNoHeaded m 35
none_as m w lawful is h = no_headed m 35 lawful (subst (λ (v : WrittenMachine). HasNoHeaded (machine_of v) 35) is h)
