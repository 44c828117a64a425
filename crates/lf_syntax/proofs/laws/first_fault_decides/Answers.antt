use Rattle.lf_syntax.specs.FirstFaultLaws.{cuts-front, first_fault}
use Rattle.lf_syntax.proofs.laws.first_fault_decides.Goals as goal

pub returns-clause-pieces : goal.returns-clause-pieces
returns-clause-pieces c = λ byte text. cuts-front byte text

pub returns-clause-place : goal.returns-clause-place
returns-clause-place c = λ rule part depth byte place done rest a b each f. first_fault byte rule part depth a b done each rest place f
