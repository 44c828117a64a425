use Rattle.lf_map.proofs.Records.{mapped_one}
use Rattle.lf_map.proofs.laws.one_mapped.Goals as goal

pub returns : goal.returns
returns c = λ target exprs rec one other h e. mapped_one target exprs rec one other h e
