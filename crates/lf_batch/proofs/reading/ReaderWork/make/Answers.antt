use Rattle.std.proofs.Common.{arith}
use Rattle.lf_batch.proofs.ZipLaws.{AllZip-take-more}
use Rattle.lf_batch.proofs.reading.ReaderWork.make.Goals as goal

pub loop-mark-preserved : goal.loop-mark-preserved
loop-mark-preserved c =
    let at = c.loop-mark in
    rw c.in_ok-push.ensures.items (AllZip-take-more _ c.args.marks.now at.verdicts.items at.mark-index _ _ (omega arith) at.invariant c.in_ok-verdict_of.ensures)
