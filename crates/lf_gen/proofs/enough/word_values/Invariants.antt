use Rattle.std.proofs.Common.{◌≡◌, map, take}
use Rattle.lf_core.specs.declared.values.Value.TheVariants.{Text}
use Rattle.lf_gen.proofs.enough.word_values.Given as goal

abbrev pub invariant-loop-word : goal.invariant-loop-word
invariant-loop-word l = l.values.items ≡ map Text (take l.word-index l.fn.words)
