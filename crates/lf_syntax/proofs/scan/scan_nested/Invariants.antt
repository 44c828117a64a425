use Rattle.lf_syntax.specs.Grammar.{NestedSentence}
use Rattle.lf_syntax.specs.Shape.{grammar, threads}
use Rattle.lf_syntax.proofs.Reading.{IsReading}
use Rattle.lf_syntax.proofs.scan.scan_nested.Given as goal

abbrev pub invariant-loop-i : goal.invariant-loop-i
invariant-loop-i l = IsReading (grammar l.rule) (NestedSentence (grammar l.rule) l.depth (grammar l.language)) l.text l.i (threads l.all.items)
