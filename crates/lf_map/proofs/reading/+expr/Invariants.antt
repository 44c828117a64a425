use Rattle.lf_map.proofs.reading.+expr.Given as goal

abbrev pub decreases-expr : goal.decreases-expr
decreases-expr l = l.depth
