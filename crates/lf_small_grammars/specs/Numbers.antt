-- Numbers joined by `;`.
use Rattle.std.specs.Prelude.{ℕ, true}
use Rattle.lf_syntax.specs.declared.leaf.Leaf.TheVariants.{Number, Within}
use Rattle.lf_syntax.specs.Grammar.{Grammar, leaf, sequence, star}

abbrev pub byte : ℕ → Grammar
byte b = leaf (Within b b)

abbrev pub number : Grammar
number = leaf (Number true 99999)

abbrev pub numbers : Grammar
numbers = sequence number (star (sequence (byte 59) number))
