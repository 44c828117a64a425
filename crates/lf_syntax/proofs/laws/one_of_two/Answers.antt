use Rattle.lf_syntax.proofs.Reading.{sentence_or_place}
use Rattle.lf_syntax.proofs.laws.one_of_two.Goals as goal

pub returns : goal.returns
returns c = λ rule g depth text good s. sentence_or_place rule good depth g text s
