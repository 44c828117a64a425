-- Lists of words, and the machine that accepts just the words of a list.
use Rattle.std.specs.Prelude.{◌≢◌, ℕ, ◌+◌, ◌-◌, ◌<◌, ◌≤◌, List, [], ◌∷◌, ◌++◌, length, take, Option, None, Some, Bool, cond, ltb, leb, nat_eq, All, AllPairs, Contains, sum_by}
use Rattle.std.specs.List.{list_any, starts_with}
use Rattle.std.specs.Str.{bytes_eq}
use Rattle.lf_core.specs.Domain.{LetterMachine}
use Rattle.lf_core.specs.declared.values.Value.{Value}
use Rattle.lf_domain.specs.Texts.{IsText}
use Rattle.lf_limits.specs.Limits.{most_list_bytes}

-- how many letters the words have together
abbrev pub letter_count : List (List ℕ) → ℕ
letter_count words = sum_by length words

-- What a list of words keeps: no two are equal, and they have at most a million letters together.
pub record IsWordList (words : List (List ℕ)) : Type 0 where
  pub apart : AllPairs (λ one other. one ≢ other) words
  pub few : letter_count words ≤ most_list_bytes

-- A word of the list, in bytes.
abbrev pub IsWordOf : List (List ℕ) → List ℕ → Type 0
IsWordOf words text = Contains words text × All (λ letter. letter < 256) text

-- A text that is a word of the list.
abbrev pub HoldsWord : List (List ℕ) → Value → Type 0
HoldsWord words v = IsText (IsWordOf words) v

-- whether some word is the text
abbrev pub is_word : List (List ℕ) → List ℕ → Bool
is_word words text = list_any (λ word. bytes_eq word text) words

-- whether some word begins with the letters
abbrev pub is_prefix : List (List ℕ) → List ℕ → Bool
is_prefix words letters = list_any (λ word. starts_with nat_eq word letters) words

-- how many letters the words have that stand before the first one that begins so
abbrev pub letters_before : List (List ℕ) → List ℕ → ℕ
letters_before [] prefix = 0
letters_before (word ∷ words) prefix = cond (starts_with nat_eq word prefix) 0 (length word + letters_before words prefix)

-- A prefix of a word has a point of its own: where the first word that begins so has its last letter,
-- if all words stand one after another.
abbrev pub point_of : List (List ℕ) → List ℕ → ℕ
point_of words prefix = letters_before words prefix + length prefix

-- the prefix that ends at this letter, if all words stand one after another
abbrev pub prefix_at : List (List ℕ) → ℕ → List ℕ
prefix_at [] point = []
prefix_at (word ∷ words) point = cond (leb point (length word)) (take point word) (prefix_at words (point - length word))

-- the point of the letters, where some word begins with them
abbrev pub point_if : List (List ℕ) → List ℕ → Option ℕ
point_if words letters = cond (is_prefix words letters) (Some (point_of words letters)) None

-- a letter leads on where some word begins with the letters so far and this one
abbrev pub word_machine : List (List ℕ) → LetterMachine
word_machine words = record {
  count = letter_count words + 1;
  first = 0;
  next = λ point letter. cond (ltb letter 256) (point_if words (prefix_at words point ++ letter ∷ [])) None;
  is_end = λ point. is_word words (prefix_at words point);
}
