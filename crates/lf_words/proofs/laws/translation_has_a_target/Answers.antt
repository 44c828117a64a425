use Rattle.lf_words.proofs.WordLaws.{target_word}
use Rattle.lf_words.proofs.laws.translation_has_a_target.Goals as goal

pub returns : goal.returns
returns c = target_word
