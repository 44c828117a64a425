use Rattle.std.proofs.Common.{true, subst}
use Rattle.lf_spelling.specs.Spelling as spelling
use Rattle.lf_format.specs.declared.format.LineEnd.TheVariants.{CrLf}
use Rattle.w3c_front.specs.declared.front.Fields.{Fields}
use Rattle.w3c_front.specs.Reading.{item_is, fault_is}
use Rattle.w3c_front.proofs.front.one_iis_answer.Goals as goal

pub returns : goal.returns
returns c = λ text. subst (λ (s : Fields). spelling.HasOneAnswer item_is fault_is s CrLf true text) c.start.ensures (c.one_answer.ensures CrLf true text)
