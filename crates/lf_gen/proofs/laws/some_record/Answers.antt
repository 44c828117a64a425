use Rattle.lf_gen.proofs.OneDrawn.{some_drawn}
use Rattle.lf_gen.proofs.laws.some_record.Goals as goal

pub returns : goal.returns
returns c = some_drawn
