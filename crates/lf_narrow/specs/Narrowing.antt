-- The grammar of a narrowing: terms joined by `;`.
use Rattle.std.specs.Prelude.{ℕ, true, false, codes}
use Rattle.lf_limits.specs.Limits.{most_length}
use Rattle.lf_syntax.specs.declared.leaf.Leaf.TheVariants.{End, Within, Number, Item}
use Rattle.lf_syntax.specs.Grammar.{Grammar, leaf, sequence, choice, star, word}
use Rattle.lf_syntax.specs.Cuts.{separated}

abbrev pub byte : ℕ → Grammar
byte b = leaf (Within b b)

abbrev pub slot_number : Grammar
slot_number = leaf (Number false 999)

abbrev pub length_number : Grammar
length_number = leaf (Number true most_length)

-- a number of 64 bits with a sign
abbrev pub int : Grammar
int = choice (leaf (Number true 9223372036854775807)) (sequence (byte 45) (leaf (Number false 9223372036854775808)))

-- a byte, or `\x` and two hexadecimal digits; and after it perhaps `-` and another that isn't below it
abbrev pub member : Grammar
member = leaf (Item 0 true)

abbrev pub set : Grammar
set = sequence member (star member)

abbrev pub wide : Grammar
wide = choice (sequence (word (codes "not ")) set) (choice (sequence (word (codes "only ")) set) (word (codes "present")))

abbrev pub len_rule : Grammar
len_rule = sequence (word (codes "len ")) (sequence length_number (sequence (word (codes "..")) (choice (leaf End) length_number)))

abbrev pub range_rule : Grammar
range_rule = sequence (word (codes "range ")) (sequence int (sequence (word (codes "..")) int))

abbrev pub rule : Grammar
rule = choice wide (choice len_rule range_rule)

abbrev pub term : Grammar
term = choice (sequence (byte 115) (sequence slot_number (sequence (byte 58) rule))) (sequence (word (codes "*:")) wide)

abbrev pub narrowing : Grammar
narrowing = separated 59 term
