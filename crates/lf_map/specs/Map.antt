-- The grammar of a field map: assignments joined by `;`. Its rule is the call, of which at most 16 lie in one another.
use Rattle.std.specs.Prelude.{ℕ, true, false, List, codes}
use Rattle.lf_limits.specs.Limits.{most_nesting}
use Rattle.lf_syntax.specs.declared.leaf.Leaf.TheVariants.{Number, Within}
use Rattle.lf_syntax.specs.Grammar.{Grammar, leaf, sequence, choice, star, again, word, NestedSentence}
use Rattle.lf_syntax.specs.Cuts.{separated}

abbrev pub within : ℕ → ℕ → Grammar
within low high = leaf (Within low high)

abbrev pub byte : ℕ → Grammar
byte b = leaf (Within b b)

abbrev pub slot_number : Grammar
slot_number = leaf (Number false 999)

-- a number of 64 bits with a sign
abbrev pub int : Grammar
int = choice (leaf (Number true 9223372036854775807)) (sequence (byte 45) (leaf (Number false 9223372036854775808)))

abbrev pub hex_digit : Grammar
hex_digit = choice (within 48 57) (choice (within 65 70) (within 97 102))

-- after a backslash: a quote, a backslash, or `x` and two hexadecimal digits
abbrev pub escaped : Grammar
escaped = choice (byte 34) (choice (byte 92) (sequence (byte 120) (sequence hex_digit hex_digit)))

abbrev pub letter : Grammar
letter = choice (within 32 33) (choice (within 35 91) (choice (within 93 126) (sequence (byte 92) escaped)))

abbrev pub string : Grammar
string = sequence (byte 34) (sequence (star letter) (byte 34))

-- what is no call and no string
abbrev pub plain : Grammar
plain = choice (byte 45) (choice int (sequence (byte 115) slot_number))

abbrev pub expr : Grammar
expr = choice plain (choice string again)

abbrev pub minutes : Grammar
minutes = sequence (within 48 53) (within 48 57)

abbrev pub some_minutes : Grammar
some_minutes = choice (sequence (byte 48) (within 49 57)) (sequence (within 49 53) (within 48 57))

abbrev pub some_hours : Grammar
some_hours = choice (sequence (byte 48) (within 49 57)) (choice (sequence (byte 49) (within 48 57)) (sequence (byte 50) (within 48 51)))

-- an offset of under a day, but not -0000
abbrev pub offset : Grammar
offset = choice (sequence (byte 43) (choice (sequence some_hours minutes) (sequence (word (codes "00")) minutes)))
    (sequence (byte 45) (choice (sequence some_hours minutes) (sequence (word (codes "00")) some_minutes)))

-- a call of one argument, and of one and a second
abbrev pub one : List ℕ → Grammar
one name = sequence (word name) (sequence expr (byte 41))

abbrev pub two : List ℕ → Grammar → Grammar
two name second = sequence (word name) (sequence expr (sequence (byte 44) (sequence second (byte 41))))

abbrev pub line : Grammar
line = sequence (word (codes "line(")) (sequence expr (sequence (byte 44) (sequence expr (sequence (byte 44) (sequence expr (byte 41))))))

abbrev pub times : Grammar
times = choice (one (codes "utc(")) (choice (one (codes "sec(")) (choice (one (codes "date(")) (choice (one (codes "clock(")) (choice (one (codes "epoch(")) (one (codes "msec("))))))

abbrev pub others : Grammar
others =
    choice (two (codes "or(") expr) (choice (two (codes "at(") expr) (choice (two (codes "zoned(") offset)
    (choice (two (codes "part(") (within 49 57)) (choice (two (codes "div(") (leaf (Number false 9223372036854775807))) (two (codes "mul(") int)))))

abbrev pub call : Grammar
call = choice times (choice others line)

abbrev pub assign : Grammar
assign = sequence (byte 115) (sequence slot_number (sequence (byte 61) expr))

-- The text is an assignment.
abbrev pub IsAssign : List ℕ → Type 0
IsAssign = NestedSentence call most_nesting assign

-- The text is a field map, whatever the formats.
abbrev pub IsMap : List ℕ → Type 0
IsMap = NestedSentence call most_nesting (separated 59 assign)
