use Rattle.lf_compile.proofs.OneCause.{answers_are_one}
use Rattle.lf_compile.proofs.laws.one_answer.Goals as goal

pub returns : goal.returns
returns c = answers_are_one
