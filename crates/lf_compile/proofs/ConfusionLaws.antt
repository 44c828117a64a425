-- The least confused line, by runs and by records.
use Rattle.std.proofs.Common.{◌≡◌, ℕ, List, Bool, false, sym, ◌∙◌, subst}
use Rattle.std.specs.Prelude.{◌↔◌, IsTrue}
use Rattle.std.proofs.lemmas.Bool.{false≢true}
use Rattle.lf_core.specs.Marked.{Machine, IsMachine}
use Rattle.lf_core.specs.Runs.{IsShared}
use Rattle.lf_core.specs.Written.{WrittenMachine, machine_of, written}
use Rattle.lf_core.specs.declared.marked.Move.{Move}
use Rattle.lf_core.specs.declared.values.Value.{Value}
use Rattle.lf_format.specs.Lines.{IsReadable}
use Rattle.lf_format.specs.declared.format.Piece.{Piece}
use Rattle.lf_machine.specs.RecordOrder.{KeepsOrder}
use Rattle.lf_machine.specs.Runs.{HasRuns, IsRecordOfRun}
use Rattle.lf_product.specs.Distance.{IsAmbiguous}
use Rattle.lf_product.proofs.SameMachine.{same_ambiguity}
use Rattle.lf_witness.specs.Runs.{AreLeastRuns}
use Rattle.lf_witness.specs.Shared.{IsLeastShared}
use Rattle.lf_witness.specs.WrittenLeast.{least_shared, least_runs}
use Rattle.lf_compile.specs.Confused.{IsConfusedLine, IsLeastConfused}
use Rattle.lf_compile.proofs.RecordLaws.{whole_of, least_record, second_record}

-- Two different whole runs stand on a confused line.
shared_of : (pieces : List Piece) (m : Machine) (run : List Value → List Move) → HasRuns pieces m run → (line : List ℕ) → IsConfusedLine pieces line → IsShared m line
shared_of pieces m run runs line (first, second, confused) = (
  run first,
  run second,
  whole_of pieces m run runs first line confused.left,
  whole_of pieces m run runs second line confused.right,
  λ e. confused.differ (runs.apart first second confused.left.held confused.right.held e),
)

-- Where no list of bytes has two different whole runs, no line is confused.
pub readable_is : (pieces : List Piece) (m : Machine) (run : List Value → List Move) → HasRuns pieces m run → (IsAmbiguous m → ⊥) → IsReadable pieces
readable_is pieces m run runs none = λ first second line confused.
    let s = shared_of pieces m run runs line (first, second, confused) in
    none (line, s)

-- The records of the two least runs on the least shared line are the two least on the least confused line.
pub least_confused : (pieces : List Piece) (m : Machine) (run : List Value → List Move) → HasRuns pieces m run → KeepsOrder pieces run → (line : List ℕ) (left right : List Move) (first second : List Value) → IsLeastShared m line → AreLeastRuns m line left right → IsRecordOfRun pieces m run left first → IsRecordOfRun pieces m run right second → IsLeastConfused pieces line first second
least_confused pieces m run runs order line left right first second shared are is_first is_second = record {
  least = λ other confused. shared.least other (shared_of pieces m run runs other confused);
  on_first = least_record pieces m run runs order line left first are.least is_first;
  on_second = second_record pieces m run runs order line left right first second are.second is_first is_second;
}

-- The two least runs of what is written out are the machine's.
pub runs_as : (m : Machine) (w : WrittenMachine) (line : List ℕ) (left right : List Move) → IsMachine m → w ≡ written m → AreLeastRuns (machine_of w) line left right → AreLeastRuns m line left right
runs_as m w line left right lawful is are = least_runs m line left right lawful (subst (λ (v : WrittenMachine). AreLeastRuns (machine_of v) line left right) is are)

-- Where what is written out isn't ambiguous, no line is confused.
pub readable_as : (pieces : List Piece) (m : Machine) (run : List Value → List Move) (w : WrittenMachine) (b : Bool) → IsMachine m → HasRuns pieces m run → w ≡ written m → IsTrue b ↔ IsAmbiguous (machine_of w) → b ≡ false → IsReadable pieces
readable_as pieces m run w b lawful runs is told none =
    readable_is pieces m run runs (λ a. false≢true (sym none ∙ told.1 (subst (λ (v : WrittenMachine). IsAmbiguous (machine_of v)) (sym is) ((same_ambiguity m lawful).0 a))))

-- The least shared line of what is written out, and its two least runs.
pub confused_as : (pieces : List Piece) (m : Machine) (run : List Value → List Move) (w : WrittenMachine) (line : List ℕ) (left right : List Move) (first second : List Value) → IsMachine m → HasRuns pieces m run → KeepsOrder pieces run → w ≡ written m → IsLeastShared (machine_of w) line → AreLeastRuns (machine_of w) line left right → IsRecordOfRun pieces m run left first → IsRecordOfRun pieces m run right second → IsLeastConfused pieces line first second
confused_as pieces m run w line left right first second lawful runs order is shared are is_first is_second =
    least_confused pieces m run runs order line left right first second
    (least_shared m line lawful (subst (λ (v : WrittenMachine). IsLeastShared (machine_of v) line) is shared))
    (runs_as m w line left right lawful is are) is_first is_second
