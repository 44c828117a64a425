use Rattle.lf_format.proofs.TwoLaws.{held_with_two, still_printed}
use Rattle.lf_format.proofs.two.two_holds_the_dash.Goals as goal

pub returns-clause-held : goal.returns-clause-held
returns-clause-held c = λ slot value. held_with_two slot value

pub returns-clause-printed : goal.returns-clause-printed
returns-clause-printed c = λ pieces rec line printed. still_printed pieces rec line printed
