use Rattle.lf_syntax.specs.Grammar.{NestedSentence}
use Rattle.lf_syntax.specs.PlaceLaws.{one_place}
use Rattle.lf_syntax.proofs.laws.one_place.Goals as goal

pub returns : goal.returns
returns c = λ rule g depth text p q a b. one_place (NestedSentence rule depth g) text p q a b
