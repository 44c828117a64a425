use Rattle.lf_product.proofs.SameMachine.{points_if_ok}
use Rattle.lf_small_machines.specs.Small.{small_machine}
use Rattle.lf_small_machines.proofs.answers.pairs_of.Goals as goal

pub returns : goal.returns
returns c = points_if_ok (small_machine c.args.m.now.start c.args.m.now.flags.items c.args.m.now.ends.items) c.distances.result c.distances.ensures
