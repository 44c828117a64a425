use Rattle.std.proofs.Common.{◌≡◌, ◌+◌, ◌++◌, ◌∷◌, [], drop}
use Rattle.lf_domain.specs.WordLists.{letter_count, is_prefix, letters_before}
use Rattle.lf_domain.proofs.words.point_after.Given as goal

abbrev pub invariant-loop-word : goal.invariant-loop-word
invariant-loop-word l = record {
  room : l.before + letter_count (drop l.word-index l.words) ≡ letter_count l.words;
  same : is_prefix (drop l.word-index l.words) (l.prefix ++ l.letter ∷ []) ≡ is_prefix l.words (l.prefix ++ l.letter ∷ []);
  place : l.before + letters_before (drop l.word-index l.words) (l.prefix ++ l.letter ∷ []) ≡ letters_before l.words (l.prefix ++ l.letter ∷ []);
}
