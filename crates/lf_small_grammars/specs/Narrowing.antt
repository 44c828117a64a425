-- The grammar of a narrowing.
use Rattle.std.specs.Prelude.{true, false, codes}
use Rattle.lf_syntax.specs.declared.leaf.Leaf.TheVariants.{End, Number, Item}
use Rattle.lf_syntax.specs.Grammar.{Grammar, leaf, sequence, choice, star, word}
use Rattle.lf_small_grammars.specs.Numbers.{byte}

abbrev pub slot : Grammar
slot = leaf (Number false 999)

abbrev pub length_number : Grammar
length_number = leaf (Number true 99999)

-- an i64
abbrev pub int : Grammar
int = choice (leaf (Number true 9223372036854775807)) (sequence (byte 45) (leaf (Number false 9223372036854775808)))

abbrev pub member : Grammar
member = leaf (Item 0 true)

abbrev pub set : Grammar
set = sequence member (star member)

abbrev pub wide : Grammar
wide = choice (sequence (word (codes "not ")) set) (choice (sequence (word (codes "only ")) set) (word (codes "present")))

abbrev pub len_rule : Grammar
len_rule = sequence (word (codes "len ")) (sequence length_number (sequence (word (codes "..")) (choice (leaf End) length_number)))

abbrev pub range_rule : Grammar
range_rule = sequence (word (codes "range ")) (sequence int (sequence (word (codes "..")) int))

abbrev pub rule : Grammar
rule = choice wide (choice len_rule range_rule)

abbrev pub term : Grammar
term = choice (sequence (byte 115) (sequence slot (sequence (byte 58) rule))) (sequence (word (codes "*:")) wide)

abbrev pub narrowing : Grammar
narrowing = sequence term (star (sequence (byte 59) term))
