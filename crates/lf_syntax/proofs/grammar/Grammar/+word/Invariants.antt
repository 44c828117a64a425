use Rattle.std.proofs.Common.{length}
use Rattle.lf_syntax.proofs.grammar.Grammar.+word.Given as goal

abbrev pub decreases-word : goal.decreases-word
decreases-word l = length l.text.now
