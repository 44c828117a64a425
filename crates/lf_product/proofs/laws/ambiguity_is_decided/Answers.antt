use Rattle.lf_product.proofs.Ambiguity.{ambiguity-decided}
use Rattle.lf_product.proofs.laws.ambiguity_is_decided.Goals as goal

pub returns : goal.returns
returns c = ambiguity-decided
