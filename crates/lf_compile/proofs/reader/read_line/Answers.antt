use Rattle.std.proofs.Common.{sym, subst}
use Rattle.lf_core.specs.Marked.{IsWholeRun}
use Rattle.lf_format.specs.Lines.{IsReadable}
use Rattle.lf_machine.specs.LineMachine.{line_machine, record_moves}
use Rattle.lf_compile.specs.Confused.{IsOnlyRecord}
use Rattle.lf_compile.proofs.RecordLaws.{only_prints}
use Rattle.lf_compile.proofs.reader.read_line.Goals as goal

pub returns-in_ok-decode-in-Some : goal.returns-in_ok-decode-in-Some
returns-in_ok-decode-in-Some c =
    let pieces = c.machine-machine.result.now in
    let same = c.machine-machine.ensures in
    let line = c.args.line.now in
    let run = c.in-Some.run' in
    let rec = c.in_ok-decode-in-Some.field-0 in
    let whole = subst (λ ps. IsWholeRun (line_machine ps) line run) (sym same) (rw c.in-Some.is at c.in_ok-run.ensures) in
    subst (λ ps. IsOnlyRecord ps line rec) same
    (only_prints pieces (line_machine pieces) (record_moves pieces) c.has_runs.ensures (subst IsReadable (sym same) c.requires) line run rec whole c.in_ok-decode-in-Some.ensures)
