use Rattle.lf_syntax.specs.Grammar.{Nested}
use Rattle.lf_syntax.specs.CutLaws.{cut_parts, rejoined}
use Rattle.lf_syntax.proofs.laws.cut_at_separators.Goals as goal

pub returns-clause-cut : goal.returns-clause-cut
returns-clause-cut c = λ rule part depth byte text a b h. cut_parts byte rule part depth text a b h

pub returns-clause-rejoined : goal.returns-clause-rejoined
returns-clause-rejoined c = λ rule part depth byte text h. rejoined byte (Nested rule depth) part text h
