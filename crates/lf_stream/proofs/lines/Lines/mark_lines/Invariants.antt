use Rattle.lf_stream.proofs.BatchLaws.{Marked}
use Rattle.lf_stream.proofs.lines.Lines.mark_lines.Given as goal

abbrev pub invariant-loop-count : goal.invariant-loop-count
invariant-loop-count l = Marked l.initial.self l.self l.count
