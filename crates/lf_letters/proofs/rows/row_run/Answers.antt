use Rattle.lf_letters.proofs.Lanes16.{rows-held}
use Rattle.lf_letters.proofs.rows.row_run.Goals as goal

pub returns-clause-held : goal.returns-clause-held
returns-clause-held c =
    rows-held c.args.rows.now c.args.text.now c.at_low.result c.at_high.result c.args.at c.nonzero_run.result c.at_low.ensures.long c.at_high.ensures.long c.nonzero_run.ensures.within
    c.at_low.ensures.entry c.at_high.ensures.entry c.nonzero_run.ensures.nonzero
