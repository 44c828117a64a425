use Rattle.lf_machine.specs.LineMachine.{line_machine, line-marked, record_moves}
use Rattle.lf_compile.proofs.ConfusionLaws.{readable_as}
use Rattle.lf_compile.proofs.confusion.least_confusion.Goals as goal

pub returns-then-not-ambiguous : goal.returns-then-not-ambiguous
returns-then-not-ambiguous c =
    let pieces = c.args.machine.now in
    readable_as pieces (line_machine pieces) (record_moves pieces) c.args.pairs.now c.ambiguous.result (line-marked pieces) c.means_records.ensures.runs c.requires c.ambiguous.ensures c.if-not-ambiguous.true
