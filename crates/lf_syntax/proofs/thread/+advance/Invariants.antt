use Rattle.lf_syntax.specs.Grammar.{weight, deep_weight}
use Rattle.lf_syntax.specs.Shape.{grammar}
use Rattle.lf_syntax.proofs.thread.+advance.Given as goal

abbrev pub decreases-advance : goal.decreases-advance
decreases-advance l = weight (deep_weight (grammar l.by.now.rule.now) l.depth) (grammar l.next.now)
