use Rattle.std.proofs.Common.{◌≡◌, ◌++◌, take}
use Rattle.lf_escape.specs.Codes.{coded}
use Rattle.lf_escape.specs.Codings.{coding_word}
use Rattle.lf_gen.proofs.key.add_words.Given as goal

abbrev pub invariant-loop-letter : goal.invariant-loop-letter
invariant-loop-letter l = l.into ≡ l.initial.into ++ coded (coding_word l.fn.code) (take l.letter-index l.fn.letters)
