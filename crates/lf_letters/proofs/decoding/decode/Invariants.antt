use Rattle.lf_letters.specs.Decodes.{Decodes}
use Rattle.lf_letters.proofs.decoding.decode.Given as goal

abbrev pub invariant-words : goal.invariant-words
invariant-words l = Decodes l.by.class l.by.code l.text l.left l.initial.letters l.letters
