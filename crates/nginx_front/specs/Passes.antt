-- What is read of a text that is known to be a directive.
use Rattle.std.specs.Prelude.{ℕ, ◌+◌, ◌-◌, ◌==◌, ◌||◌, List, [], ◌∷◌, ◌++◌, length, drop, if◌then◌else◌}
use Rattle.std.specs.List.{prefix_len}
use Rattle.lf_spelling.specs.Runs.{past}
use Rattle.nginx_front.specs.declared.strings.Placed.{Placed}
use Rattle.nginx_front.specs.declared.strings.Mode.{Mode}
use Rattle.nginx_front.specs.declared.strings.Mode.TheVariants.{Outside, Quoted, Backslash}
use Rattle.nginx_front.specs.Bytes.{is_white, is_name_byte, is_quote, is_bare, escaped}
use Rattle.nginx_front.specs.Strings.{placed, escape_given}
use Rattle.nginx_front.specs.Escapes.{names_escape}

-- what follows the name: two words stand before it, the first of which is `log_format`
abbrev pub after_name : List ℕ → List ℕ
after_name text = past is_name_byte (past is_white (past is_name_byte (past is_white text)))

-- the mode after a byte at a place
abbrev pub next : Mode → ℕ → ℕ → Mode
next Outside place b = if is_quote b then Quoted b place else Outside
next (Quoted quote at) place b = if b == quote then Outside else if b == 92 then Backslash quote at else Quoted quote at
next (Backslash quote at) place b = Quoted quote at

-- what a byte at a place gives
abbrev pub gives : Mode → ℕ → ℕ → List Placed
gives Outside place b = if is_bare b then placed b place ∷ [] else []
gives (Quoted quote at) place b = if (b == quote) || (b == 92) then [] else placed b place ∷ []
gives (Backslash quote at) place b = escape_given (place - 1) b (escaped b)

-- the mode after a text that begins at a place
abbrev pub mode_after : Mode → ℕ → List ℕ → Mode
mode_after mode place [] = mode
mode_after mode place (b ∷ text) = mode_after (next mode place b) (place + 1) text

-- the place of the quote that is open
abbrev pub open_place : Mode → ℕ
open_place Outside = 0
open_place (Quoted quote at) = at
open_place (Backslash quote at) = at

-- what such a text gives
abbrev pub given_by : Mode → ℕ → List ℕ → List Placed
given_by mode place [] = []
given_by mode place (b ∷ text) = gives mode place b ++ given_by (next mode place b) (place + 1) text

-- where the name ends, and where the part after it begins
abbrev pub name_end : List ℕ → ℕ
name_end text = length text - length (after_name text)

abbrev pub word_place : List ℕ → ℕ
word_place text = length text - length (past is_white (after_name text))

-- where the strings begin: after the escape, where one is named
abbrev pub strings_place : List ℕ → ℕ
strings_place text = if names_escape (drop (word_place text) text) then word_place text + prefix_len is_bare (drop (word_place text) text) else name_end text

-- the bytes that the strings of a directive give
abbrev pub given_in : List ℕ → List Placed
given_in text = given_by Outside (strings_place text) (drop (strings_place text) text)
