use Rattle.lf_words.proofs.CommandLaws.{one_command_or_bad}
use Rattle.lf_words.proofs.laws.words_are_one_command_or_bad.Goals as goal

pub returns : goal.returns
returns c = one_command_or_bad
