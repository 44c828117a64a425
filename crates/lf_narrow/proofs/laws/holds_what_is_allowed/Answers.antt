use Rattle.lf_narrow.proofs.Exact.{exact}
use Rattle.lf_narrow.proofs.laws.holds_what_is_allowed.Goals as goal

pub returns : goal.returns
returns c = λ rule slot after value fits e. exact rule slot after value fits e
