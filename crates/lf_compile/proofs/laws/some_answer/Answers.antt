use Rattle.lf_compile.proofs.SomeAnswer.{some_answer}
use Rattle.lf_compile.proofs.laws.some_answer.Goals as goal

pub returns : goal.returns
returns c = some_answer
