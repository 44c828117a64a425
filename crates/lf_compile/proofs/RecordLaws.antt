-- What a machine with one run for each record says of the records that print a line.
use Rattle.std.proofs.Common.{ℕ, inl, inr, List, sym, ap, ◌∙◌, subst}
use Rattle.lf_core.specs.Marked.{Machine, IsWholeRun}
use Rattle.lf_core.specs.Runs.{RunLe}
use Rattle.lf_core.specs.RunLaws.{run_cases}
use Rattle.lf_core.specs.declared.marked.Move.{Move}
use Rattle.lf_core.specs.declared.values.Value.{Value}
use Rattle.lf_format.specs.Lines.{Prints, IsReadable}
use Rattle.lf_format.specs.declared.format.Piece.{Piece}
use Rattle.lf_machine.specs.RecordOrder.{KeepsOrder}
use Rattle.lf_machine.specs.Runs.{HasRuns, IsRecordOfRun}
use Rattle.lf_witness.specs.Runs.{IsLeastRun, IsSecondRun}
use Rattle.lf_compile.specs.Confused.{IsOnlyRecord, IsAtMost, IsLeastRecord, IsSecondRecord}

-- A record that prints the line has a whole run over it.
pub whole_of : (pieces : List Piece) (m : Machine) (run : List Value → List Move) → HasRuns pieces m run → (rec : List Value) (line : List ℕ) → Prints pieces rec line → IsWholeRun m line (run rec)
whole_of pieces m run runs rec line p = subst (λ (bytes : List ℕ). IsWholeRun m bytes (run rec)) p.printed (runs.each rec p.held)

-- The record of a whole run over the line prints it.
pub prints_of : (pieces : List Piece) (m : Machine) (run : List Value → List Move) (moves : List Move) (rec : List Value) (line : List ℕ) → IsRecordOfRun pieces m run moves rec → IsWholeRun m line moves → Prints pieces rec line
prints_of pieces m run moves rec line is whole = record { held = is.held; printed = is.prints line whole }

-- The record of a whole run is the only one that prints the line, where no two do.
pub only_prints : (pieces : List Piece) (m : Machine) (run : List Value → List Move) → HasRuns pieces m run → IsReadable pieces → (line : List ℕ) (moves : List Move) (rec : List Value) → IsWholeRun m line moves → IsRecordOfRun pieces m run moves rec → IsOnlyRecord pieces line rec
only_prints pieces m run runs readable line moves rec whole is = record {
  prints = here;
  only = λ other p.
      elim (run_cases (run other) (run rec)) [
        | inl e ↦ runs.apart other rec p.held is.held e
        | inr n ↦ absurd (readable other rec line (record { left = p; right = here; differ = λ e. n (ap run e) }))
      ];
}
  where
    here : Prints pieces rec line
    here = prints_of pieces m run moves rec line is whole

-- Of two records that print one line, the one whose run isn't above the other's is less, or the same.
at_most : (pieces : List Piece) (m : Machine) (run : List Value → List Move) → HasRuns pieces m run → KeepsOrder pieces run → (rec other : List Value) (line : List ℕ) → Prints pieces rec line → Prints pieces other line → RunLe (run rec) (run other) → IsAtMost pieces rec other
at_most pieces m run runs order rec other line p q le =
    elim le [
      | inl less ↦ inr (order rec other p.held q.held (p.printed ∙ sym q.printed) less)
      | inr e ↦ inl (runs.apart rec other p.held q.held e)
    ]

-- The record of the least whole run is the least record.
pub least_record : (pieces : List Piece) (m : Machine) (run : List Value → List Move) → HasRuns pieces m run → KeepsOrder pieces run → (line : List ℕ) (moves : List Move) (rec : List Value) → IsLeastRun m m.first line moves → IsRecordOfRun pieces m run moves rec → IsLeastRecord pieces line rec
least_record pieces m run runs order line moves rec least is = record {
  prints = here;
  least = λ other p.
      at_most pieces m run runs order rec other line here p
      (subst (λ (xs : List Move). RunLe xs (run other)) (sym is.same) (least.least (run other) (whole_of pieces m run runs other line p)));
}
  where
    here : Prints pieces rec line
    here = prints_of pieces m run moves rec line is least.runs

-- The record of the least of the other whole runs is the least of the other records.
pub second_record : (pieces : List Piece) (m : Machine) (run : List Value → List Move) → HasRuns pieces m run → KeepsOrder pieces run → (line : List ℕ) (left right : List Move) (first rec : List Value) → IsSecondRun m m.first line left right → IsRecordOfRun pieces m run left first → IsRecordOfRun pieces m run right rec → IsSecondRecord pieces line first rec
second_record pieces m run runs order line left right first rec second is_first is = record {
  prints = here;
  differs = λ e. second.differs (sym is.same ∙ ap run e ∙ is_first.same);
  least = λ other p differs.
      at_most pieces m run runs order rec other line here p
      (subst (λ (xs : List Move). RunLe xs (run other)) (sym is.same) (second.least (run other) (whole_of pieces m run runs other line p) (λ e. differs (runs.apart other first p.held is_first.held (e ∙ sym is_first.same)))));
}
  where
    here : Prints pieces rec line
    here = prints_of pieces m run right rec line is second.runs
