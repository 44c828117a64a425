-- Tiny grammars over the letters a, b and `;`.
use Rattle.std.specs.Prelude.{codes}
use Rattle.lf_syntax.specs.declared.leaf.Leaf.TheVariants.{End}
use Rattle.lf_syntax.specs.Grammar.{Grammar, leaf, sequence, choice, star, again, word}
use Rattle.lf_small_grammars.specs.Numbers.{byte}

abbrev pub runs : Grammar
runs = sequence (star (byte 97)) (byte 98)

abbrev pub words : Grammar
words = sequence (choice (word (codes "ab")) (word (codes "a"))) (star (byte 98))

abbrev pub part : Grammar
part = choice (word (codes "a")) (word (codes "ab"))

abbrev pub joined_parts : Grammar
joined_parts = sequence part (star (sequence (byte 59) part))

abbrev pub nest_rule : Grammar
nest_rule = sequence (byte 97) (sequence (choice (leaf End) again) (byte 98))

abbrev pub nests : Grammar
nests = choice (byte 59) again
