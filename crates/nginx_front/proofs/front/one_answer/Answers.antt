use Rattle.std.proofs.Common.{false}
use Rattle.lf_format.specs.declared.format.LineEnd.TheVariants.{Lf}
use Rattle.nginx_front.proofs.front.one_answer.Goals as goal

pub returns : goal.returns
returns c = λ text. c.one_answer.ensures Lf false text
