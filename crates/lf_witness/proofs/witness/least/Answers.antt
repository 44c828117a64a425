use Rattle.std.proofs.Common.{List, ℕ, sym, subst}
use Rattle.lf_core.specs.Marked.{IsMachine}
use Rattle.lf_core.specs.Runs.{IsShared}
use Rattle.lf_core.specs.Written.{WrittenMachine, machine_of}
use Rattle.lf_witness.specs.Runs.{AreLeastRuns}
use Rattle.lf_witness.proofs.witness.least.Goals as goal

pub least_runs-requires-clause-lawful : goal.least_runs-requires-clause-lawful
least_runs-requires-clause-lawful c = subst (λ (w : WrittenMachine). IsMachine (machine_of w)) (sym c.table.ensures) c.is_machine.ensures

pub least_runs-requires-clause-shared : goal.least_runs-requires-clause-shared
least_runs-requires-clause-shared c =
    subst (λ (w : WrittenMachine). IsShared (machine_of w) c.as_slice.result.now) (sym c.table.ensures)
    (subst (λ (bs : List ℕ). IsShared (machine_of c.args.pairs.now) bs) (sym c.as_slice.ensures) c.in_ok-line.ensures.shared)

pub returns-clause-runs : goal.returns-clause-runs
returns-clause-runs c =
    let found = c.in_ok-left in
    subst (λ (w : WrittenMachine). AreLeastRuns (machine_of w) c.in_ok-line.line found.left found.right) c.table.ensures
    (subst (λ (bs : List ℕ). AreLeastRuns (machine_of c.table.result.now) bs found.left found.right) c.as_slice.ensures found.ensures)
