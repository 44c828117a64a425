use Rattle.std.proofs.Common.{◌≡◌, ◌+◌, drop}
use Rattle.lf_domain.specs.WordLists.{letter_count}
use Rattle.lf_domain.proofs.word_list.WordList.letter_count.Given as goal

abbrev pub invariant-loop-word : goal.invariant-loop-word
invariant-loop-word l = l.count + letter_count (drop l.word-index l.word-items) ≡ letter_count l.word-items
