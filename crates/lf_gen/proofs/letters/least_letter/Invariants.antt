use Rattle.lf_gen.specs.Letters.{IsLeastLetter}
use Rattle.lf_gen.proofs.letters.least_letter.Given as goal

abbrev pub invariant-loop-letter : goal.invariant-loop-letter
invariant-loop-letter l = IsLeastLetter l.fn.code l.fn.class l.letter l.least
