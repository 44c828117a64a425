use Rattle.lf_fronts.proofs.KeepLaws.{keeps_of}
use Rattle.lf_fronts.proofs.fronts.spelled_keeps.Goals as goal

pub returns : goal.returns
returns c = keeps_of
