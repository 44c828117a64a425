use Rattle.lf_witness.proofs.Existence.{headed_or_none}
use Rattle.lf_witness.proofs.laws.headed_is_decided.Goals as goal

pub returns : goal.returns
returns c = headed_or_none
