use Rattle.lf_machine.specs.LineMachine.{line_machine, line-marked, record_moves}
use Rattle.lf_compile.proofs.ConfusionLaws.{runs_as, confused_as}
use Rattle.lf_compile.proofs.confusion.confusion_of.Goals as goal

pub decode-requires : goal.decode-requires
decode-requires c =
    let pieces = c.args.machine.now in
    let found = c.in_ok-line.field-0 in
    (found.line, (runs_as (line_machine pieces) c.args.pairs.now found.line found.left found.right (line-marked pieces) c.requires.same c.in_ok-line.ensures.runs).least.runs)

pub decode-requires-2 : goal.decode-requires-2
decode-requires-2 c =
    let pieces = c.args.machine.now in
    let found = c.in_ok-line.field-0 in
    (found.line, (runs_as (line_machine pieces) c.args.pairs.now found.line found.left found.right (line-marked pieces) c.requires.same c.in_ok-line.ensures.runs).second.runs)

pub returns : goal.returns
returns c =
    let pieces = c.args.machine.now in
    let found = c.in_ok-line.field-0 in
    confused_as pieces (line_machine pieces) (record_moves pieces) c.args.pairs.now found.line found.left found.right c.in_ok-first.first c.in_ok-second.second
    (line-marked pieces) c.means_records.ensures.runs c.means_records.ensures.order c.requires.same c.in_ok-line.ensures.line c.in_ok-line.ensures.runs c.in_ok-first.ensures c.in_ok-second.ensures
