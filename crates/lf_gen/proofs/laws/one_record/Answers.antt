use Rattle.lf_gen.proofs.OneDrawn.{one_drawn}
use Rattle.lf_gen.proofs.laws.one_record.Goals as goal

pub returns : goal.returns
returns c = one_drawn
