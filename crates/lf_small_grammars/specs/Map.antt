-- The grammar of a field map. Its rule is the call, of which at most 16 lie in one another.
use Rattle.std.specs.Prelude.{ℕ, false, List, codes}
use Rattle.lf_syntax.specs.declared.leaf.Leaf.TheVariants.{Number, Within}
use Rattle.lf_syntax.specs.Grammar.{Grammar, leaf, sequence, choice, star, again, word}
use Rattle.lf_small_grammars.specs.Numbers.{byte}
use Rattle.lf_small_grammars.specs.Narrowing.{slot, int}

abbrev pub within : ℕ → ℕ → Grammar
within low high = leaf (Within low high)

abbrev pub hex_digit : Grammar
hex_digit = choice (within 48 57) (choice (within 65 70) (within 97 102))

abbrev pub escaped : Grammar
escaped = choice (byte 34) (choice (byte 92) (sequence (byte 120) (sequence hex_digit hex_digit)))

abbrev pub char : Grammar
char = choice (within 32 33) (choice (within 35 91) (choice (within 93 126) (sequence (byte 92) escaped)))

abbrev pub string : Grammar
string = sequence (byte 34) (sequence (star char) (byte 34))

abbrev pub expr : Grammar
expr = choice (byte 45) (choice int (choice string (choice (sequence (byte 115) slot) again)))

-- minutes, and the offsets other than -0000
abbrev pub minutes : Grammar
minutes = sequence (within 48 53) (within 48 57)

abbrev pub some_minutes : Grammar
some_minutes = choice (sequence (byte 48) (within 49 57)) (sequence (within 49 53) (within 48 57))

abbrev pub some_hours : Grammar
some_hours = choice (sequence (byte 48) (within 49 57)) (choice (sequence (byte 49) (within 48 57)) (sequence (byte 50) (within 48 51)))

abbrev pub offset : Grammar
offset = choice (sequence (byte 43) (choice (sequence some_hours minutes) (sequence (word (codes "00")) minutes))) (sequence (byte 45) (choice (sequence some_hours minutes) (sequence (word (codes "00")) some_minutes)))

-- a call of one, two and three arguments
abbrev pub one : List ℕ → Grammar
one name = sequence (word name) (sequence expr (byte 41))

abbrev pub two : List ℕ → Grammar → Grammar
two name second = sequence (word name) (sequence expr (sequence (byte 44) (sequence second (byte 41))))

abbrev pub line : Grammar
line = sequence (word (codes "line(")) (sequence expr (sequence (byte 44) (sequence expr (sequence (byte 44) (sequence expr (byte 41))))))

abbrev pub times : Grammar
times = choice (one (codes "utc(")) (choice (one (codes "sec(")) (choice (one (codes "date(")) (choice (one (codes "clock(")) (choice (one (codes "epoch(")) (one (codes "msec("))))))

abbrev pub others : Grammar
others = choice (two (codes "or(") expr) (choice (two (codes "at(") expr) (choice (two (codes "zoned(") offset) (choice (two (codes "part(") (within 49 57)) (choice (two (codes "div(") (leaf (Number false 9223372036854775807))) (two (codes "mul(") int)))))

abbrev pub call : Grammar
call = choice times (choice others line)

abbrev pub assign : Grammar
assign = sequence (byte 115) (sequence slot (sequence (byte 61) expr))

abbrev pub map : Grammar
map = sequence assign (star (sequence (byte 59) assign))
