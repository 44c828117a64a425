use Rattle.lf_format.proofs.TwoLaws.{keeps_with_two, size_with_two}
use Rattle.lf_format.proofs.two.two_keeps.Goals as goal

pub returns-clause-keeps : goal.returns-clause-keeps
returns-clause-keeps c = λ format kept. keeps_with_two format.pieces kept

pub returns-clause-size : goal.returns-clause-size
returns-clause-size c = λ format. size_with_two format.pieces
