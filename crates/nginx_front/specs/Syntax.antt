-- The grammar of a log_format directive.
use Rattle.std.specs.Prelude.{ℕ, ◌+◌, ◌-◌, List, [], ◌∷◌, codes, Option, Some, None}
use Rattle.lf_syntax.specs.declared.leaf.Leaf.TheVariants.{End, Within}
use Rattle.lf_syntax.specs.Places.{FaultPlace}
use Rattle.lf_syntax.specs.Grammar.{Grammar, leaf, sequence, choice, star, word, Sentence}

-- one byte of some ranges or of the last
abbrev pub one_of : List (ℕ × ℕ) → (ℕ × ℕ) → Grammar
one_of [] last = leaf (Within last.0 last.1)
one_of (range ∷ ranges) last = choice (leaf (Within range.0 range.1)) (one_of ranges last)

abbrev pub byte : ℕ → Grammar
byte b = leaf (Within b b)

-- one or more of these
abbrev pub some : Grammar → Grammar
some one = sequence one (star one)

-- space, tab, CR and LF
abbrev pub white : Grammar
white = one_of ((32, 32) ∷ (9, 10) ∷ []) (13, 13)

-- a letter, a digit, `_`, `-` or `.`
abbrev pub name_byte : Grammar
name_byte = one_of ((97, 122) ∷ (95, 95) ∷ (65, 90) ∷ (48, 57) ∷ []) (45, 46)

-- any byte but white space, `;`, quotes and the backslash
abbrev pub bare : Grammar
bare = one_of ((93, 255) ∷ (60, 91) ∷ (40, 58) ∷ (35, 38) ∷ (33, 33) ∷ (14, 31) ∷ (11, 12) ∷ []) (0, 8)

-- in quotes: any byte but the quote and the backslash, or a backslash and any byte
abbrev pub letter : ℕ → Grammar
letter quote = choice (one_of ((93, 255) ∷ (quote + 1, 91) ∷ []) (0, quote - 1)) (sequence (byte 92) (leaf (Within 0 255)))

-- a quote and what stands after it
abbrev pub opened : ℕ → Grammar → Grammar
opened quote end = sequence (byte quote) (sequence (star (letter quote)) end)

-- a bare string, or one in quotes
abbrev pub string : Grammar
string = choice (some bare) (choice (opened 34 (byte 34)) (opened 39 (byte 39)))

-- a string after white space
abbrev pub part : Grammar
part = sequence (some white) string

abbrev pub log_format : Grammar
log_format = word (codes "log_format")

-- white space, `log_format`, white space and a name
abbrev pub head : Grammar
head = sequence (star white) (sequence log_format (sequence (some white) (some name_byte)))

-- white space, `;` and white space
abbrev pub tail : Grammar
tail = sequence (star white) (sequence (byte 59) (star white))

-- a directive, in which any bare string may stand for the escape
abbrev pub directive : Grammar
directive = sequence head (sequence (star part) tail)

-- what stands before a part that follows the name, and before one that follows some strings
abbrev pub before_escape : Grammar
before_escape = sequence head (some white)

abbrev pub before_string : Grammar
before_string = sequence head (sequence (star part) (some white))

-- a string in quotes without its end
abbrev pub half_string : Grammar
half_string = choice (opened 34 (choice (leaf End) (byte 92))) (opened 39 (choice (leaf End) (byte 92)))

-- The text is of this grammar.
abbrev pub Is : Grammar → List ℕ → Type 0
Is grammar text = Sentence grammar text

-- The place of the text's fault, or none where it is a sentence.
abbrev pub PlaceIs : (List ℕ → Type 0) → List ℕ → Option ℕ → Type 0
PlaceIs L text None = L text
PlaceIs L text (Some place) = FaultPlace L text place
