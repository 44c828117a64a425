use Rattle.lf_words.proofs.WordLaws.{narrowing_word}
use Rattle.lf_words.proofs.laws.narrowing_is_a_word.Goals as goal

pub returns : goal.returns
returns c = narrowing_word
