use Rattle.lf_words.proofs.WordLaws.{format_word}
use Rattle.lf_words.proofs.laws.format_is_a_word.Goals as goal

pub returns : goal.returns
returns c = format_word
