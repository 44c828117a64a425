use Rattle.lf_letters.proofs.Lanes16.{run-within, run-nonzero}
use Rattle.lf_letters.proofs.rows.nonzero_run.Goals as goal

pub returns-clause-within : goal.returns-clause-within
returns-clause-within c = run-within c.args.lanes c.first_set.result c.fits-lanes.0 c.first_set.ensures

pub returns-clause-nonzero : goal.returns-clause-nonzero
returns-clause-nonzero c = run-nonzero c.args.lanes c.first_set.result c.fits-lanes.0 c.first_set.ensures
