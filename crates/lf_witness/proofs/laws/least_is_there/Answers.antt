use Rattle.lf_witness.proofs.Existence.{least_there}
use Rattle.lf_witness.proofs.laws.least_is_there.Goals as goal

pub returns : goal.returns
returns c = least_there
