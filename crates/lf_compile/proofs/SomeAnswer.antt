-- Each format has an answer.
use Rattle.std.proofs.Common.{ℕ, ◌≤◌, List, refl, sym, ap, ◌∙◌, arith, inl, inr}
use Rattle.std.specs.Prelude.{Option, Some, None}
use Rattle.std.proofs.lemmas.Bool.{cases_Bool, cases_lt, false≢true}
use Rattle.lf_core.specs.Marked.{IsWholeRun}
use Rattle.lf_core.specs.declared.marked.Move.{Move}
use Rattle.lf_core.specs.declared.values.Value.{Value}
use Rattle.lf_format.specs.Keeps.{EachKept}
use Rattle.lf_format.specs.Lines.{line_text}
use Rattle.lf_format.specs.Shape.{Shape}
use Rattle.lf_format.specs.Size.{size_of}
use Rattle.lf_format.specs.declared.format.Piece.{Piece}
use Rattle.lf_machine.specs.LineBytes.{LiteralsAreBytes}
use Rattle.lf_machine.specs.LineMachine.{line_machine, line-marked, record_moves}
use Rattle.lf_machine.specs.Runs.{HasRuns, IsRecordOfRun}
use Rattle.lf_machine.specs.RecordOrder.{KeepsOrder}
use Rattle.lf_machine.proofs.RunLaws.{line-runs}
use Rattle.lf_machine.proofs.LineOrder.{line-order}
use Rattle.lf_product.proofs.Ambiguity.{ambiguity-decided}
use Rattle.lf_witness.proofs.Existence.{least_there, headed_or_none}
use Rattle.lf_compile.specs.Accepted.{IsAnswer, HasNoNote}
use Rattle.lf_limits.specs.Limits.{most_size}
use Rattle.lf_compile.specs.declared.refused.Refused.{Refused}
use Rattle.lf_compile.specs.declared.refused.Refused.TheVariants.{TooLarge, Hash, Ambiguous}
use Rattle.lf_compile.proofs.ConfusionLaws.{readable_is, least_confused}
use Rattle.lf_compile.proofs.NoteLaws.{no_note, least_note_is}

-- The record of a whole run.
record_of : (pieces : List Piece) → HasRuns pieces (line_machine pieces) (record_moves pieces) → (line : List ℕ) (moves : List Move) → IsWholeRun (line_machine pieces) line moves → (rec : List Value) × IsRecordOfRun pieces (line_machine pieces) (record_moves pieces) moves rec
record_of pieces runs line moves whole =
    let found = runs.no_other line moves whole in (
      found.0,
      record {
        held = found.1;
        same = sym found.3;
        prints = λ other run.
            let again = runs.no_other other moves run in
            let same = runs.apart again.0 found.0 again.1 found.1 (sym again.3 ∙ found.3) in
            ap (line_text pieces) (sym same) ∙ sym again.2;
      },
    )

-- Where no record's line is a note, the format is accepted or ambiguous.
some_reading : (format : Shape) → size_of format.pieces ≤ most_size → HasNoNote format → HasRuns format.pieces (line_machine format.pieces) (record_moves format.pieces) → KeepsOrder format.pieces (record_moves format.pieces) → (answer : Option Refused) × IsAnswer format answer
some_reading format within apart runs order =
    let pieces = format.pieces in
    let m = line_machine pieces in
    elim (ambiguity-decided m (line-marked pieces)) [
      | inr none ↦ (None, record { within = within; apart = apart; readable = readable_is pieces m (record_moves pieces) runs none })
      | inl ambiguous ↦
          let least = least_there m (line-marked pieces) ambiguous in
          let first = record_of pieces runs least.line least.left least.least_runs.least.runs in
          let second = record_of pieces runs least.line least.right least.least_runs.second.runs in (
            Some (Ambiguous (record { line = least.line; first = first.0; second = second.0 })),
            (
              record {
                within = within;
                apart = apart;
                least = least_confused pieces m (record_moves pieces) runs order least.line least.left least.right first.0 second.0 least.least_line least.least_runs first.1 second.1;
              },
              λ e. cc,
            ),
          )
    ]

-- Each format whose slots keep what they should, and whose literals are bytes, has an answer.
pub some_answer : (format : Shape) → EachKept format.pieces → LiteralsAreBytes format.pieces → (answer : Option Refused) × IsAnswer format answer
some_answer format kept bytes =
    let pieces = format.pieces in
    let runs = line-runs pieces kept bytes in
    let order = line-order pieces kept in
    let m = line_machine pieces in
    elim (cases_lt most_size (size_of pieces)) [
      | inl over ↦ (Some (TooLarge (size_of pieces)), (record { is = refl; over = over }, λ e. cc))
      | inr within ↦ elim (cases_Bool format.notes) [
        | inr none ↦ some_reading format (omega (arith, within)) (λ t. absurd (false≢true (sym none ∙ t))) runs order
        | inl notes ↦ elim (headed_or_none m (line-marked pieces) 35) [
          | inr none ↦ some_reading format (omega (arith, within)) (λ _. no_note pieces m (record_moves pieces) runs none) runs order
          | inl found ↦
              let rec = record_of pieces runs found.0 found.1 found.2.least_run.runs in
              (Some (Hash rec.0), (record { within = omega (arith, within); notes = notes; least = least_note_is pieces m (record_moves pieces) runs order found.0 found.1 rec.0 found.2 rec.1 }, λ e. cc))
        ]
      ]
    ]
