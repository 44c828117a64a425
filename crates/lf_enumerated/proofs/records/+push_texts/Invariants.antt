use Rattle.lf_enumerated.proofs.records.+push_texts.Given as goal

abbrev pub decreases-push_texts : goal.decreases-push_texts
decreases-push_texts l = l.more
