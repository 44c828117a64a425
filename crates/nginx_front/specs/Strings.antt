-- What the strings of a directive give.
use Rattle.std.specs.Prelude.{◌≡◌, ℕ, ◌+◌, true, List, [], ◌∷◌, ◌++◌, length, Option, Some, None}
use Rattle.lf_syntax.specs.Grammar.{joined, Each}
use Rattle.nginx_front.specs.declared.strings.Placed.{Placed}
use Rattle.nginx_front.specs.Bytes.{escaped, is_quote}
use Rattle.nginx_front.specs.Syntax.{Is, some, white, bare, letter}

-- a byte at a place
abbrev pub placed : ℕ → ℕ → Placed
placed byte place = record { byte = byte; place = place }

-- each byte gives itself
abbrev pub plain_given : ℕ → List ℕ → List Placed
plain_given place [] = []
plain_given place (b ∷ bytes) = placed b place ∷ plain_given (place + 1) bytes

-- A backslash and a byte give what they stand for, at the place of the backslash, or both give themselves.
abbrev pub escape_given : ℕ → ℕ → Option ℕ → List Placed
escape_given place c (Some b) = placed b place ∷ []
escape_given place c None = placed 92 place ∷ placed c (place + 1) ∷ []

-- what a letter in quotes gives
abbrev pub letter_given : ℕ → List ℕ → List Placed
letter_given place (backslash ∷ c ∷ more) = escape_given place c (escaped c)
letter_given place letter = plain_given place letter

-- what letters give, one after another
abbrev pub letters_given : ℕ → List (List ℕ) → List Placed
letters_given place [] = []
letters_given place (letter ∷ letters) = letter_given place letter ++ letters_given (place + length letter) letters

-- A string at a place gives these bytes.
pub data StringGives (place : ℕ) (text : List ℕ) (given : List Placed) : Type 0 where
  run : Is (some bare) text → given ≡ plain_given place text → StringGives place text given
  quoted : (quote : ℕ) (letters : List (List ℕ)) → is_quote quote ≡ true → Each (Is (letter quote)) letters → text ≡ quote ∷ (joined letters ++ quote ∷ []) → given ≡ letters_given (place + 1) letters → StringGives place text given

-- So does white space with a string after it.
pub record PartGives (place : ℕ) (text : List ℕ) (given : List Placed) : Type 0 where
  pub gap : List ℕ
  pub string : List ℕ
  pub text_is : text ≡ gap ++ string
  pub white : Is (some white) gap
  pub gives : StringGives (place + length gap) string given

-- So do such parts, one after another.
abbrev pub PartsGive : ℕ → List (List ℕ) → List Placed → Type 0
PartsGive place [] given = given ≡ []
PartsGive place (part ∷ parts) given = (first : List Placed) × (rest : List Placed) × (given ≡ first ++ rest) × PartGives place part first × PartsGive (place + length part) parts rest
