use Rattle.lf_core.specs.Written.{machine_of}
use Rattle.lf_product.specs.declared.pages.TheConstants.{NONE}
use Rattle.lf_product.proofs.Levels.{going_same}
use Rattle.lf_product.proofs.search.reach_if.Goals as goal

pub returns-clause-going : goal.returns-clause-going
returns-clause-going c = going_same (machine_of c.args.table.now) NONE c.args.steps c.args.distances.now c.args.waiting.now.items c.requires.standing
