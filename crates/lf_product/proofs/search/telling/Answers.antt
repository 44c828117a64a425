use Rattle.std.proofs.Common.{true, false, refl}
use Rattle.lf_product.specs.Arcs.{lists_of}
use Rattle.lf_product.proofs.Sweep.{tell}
use Rattle.lf_product.proofs.search.telling.Goals as goal

pub returns-then-pair : goal.returns-then-pair
returns-then-pair c = λ m marked joined. tell m true (lists_of c.args.marked.now) c.args.pair (λ e. refl) marked

pub returns : goal.returns
returns c = λ m marked joined. tell m false (lists_of c.args.joined.now) c.args.pair (λ e. absurd (c.if-pair.false e)) joined
