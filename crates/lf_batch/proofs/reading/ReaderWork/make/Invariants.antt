use Rattle.std.proofs.Common.{take}
use Rattle.lf_batch.specs.Verdicts.{AreVerdicts}
use Rattle.lf_batch.proofs.reading.ReaderWork.make.Given as goal

abbrev pub invariant-loop-mark : goal.invariant-loop-mark
invariant-loop-mark l = AreVerdicts l.self.pieces l.text (take l.mark-index l.marks) l.verdicts.items
