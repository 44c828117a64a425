use Rattle.lf_known_draws.proofs.enumerated.+least_from.Given as goal

abbrev pub decreases-least_from : goal.decreases-least_from
decreases-least_from l = l.more
