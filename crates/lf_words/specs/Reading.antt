-- What the inner calls say of words that they read.
use Rattle.std.specs.Prelude.{◌≡◌, ℕ, List, [], ◌∷◌, Bool, Option, MatchOption, codes}
use Rattle.lf_words.specs.declared.command.Command.{Command}
use Rattle.lf_words.specs.declared.command.Side.{Side}
use Rattle.lf_words.specs.declared.command.Verb.{Verb}
use Rattle.lf_words.specs.declared.command.Front.{Front}
use Rattle.lf_words.specs.Command.{verb_text, front_text, Given, option_words, value_of, AreOptionsOf, IsNumber, IsJobs, dash_text, IsDash, IsCommand, IsBad}

-- The word is no verb's.
abbrev pub NamesNoVerb : List ℕ → Type 0
NamesNoVerb word = (verb : Verb) → word ≡ verb_text verb → ⊥

-- The word is no front's.
abbrev pub NamesNoFront : List ℕ → Type 0
NamesNoFront word = (front : Front) → word ≡ front_text front → ⊥

-- The word doesn't say whether absence and a lone dash are two values.
abbrev pub NamesNoDash : List ℕ → Type 0
NamesNoDash word = (two : Bool) → word ≡ dash_text two → ⊥

-- the pairs of words that stand one after the other
abbrev pub pairs : List (List ℕ) → List Given
pairs [] = []
pairs (name ∷ []) = []
pairs (name ∷ value ∷ words) = record { name = name; value = value } ∷ pairs words

-- The words are options of the verb.
abbrev pub AreOptionWords : Verb → List (List ℕ) → Type 0
AreOptionWords verb words = (words ≡ option_words (pairs words)) × AreOptionsOf verb (pairs words)

-- The text is no number up to this one.
abbrev pub IsNoNumber : ℕ → List ℕ → Type 0
IsNoNumber most text = (n : ℕ) → IsNumber most text n → ⊥

-- the value that the option words give the number of jobs
abbrev pub jobs_text : List (List ℕ) → Option (List ℕ)
jobs_text words = value_of (codes "--jobs") (pairs words)

-- the value that the option words give the lone dash
abbrev pub said_dash : List (List ℕ) → Option (List ℕ)
said_dash words = value_of (codes "--dash") (pairs words)

-- the side with a front and a format, narrowed by the option of this name
abbrev pub given_side : Front → List ℕ → List ℕ → List (List ℕ) → Side
given_side front format name words =
    record { front = front; format = format; narrow = value_of name (pairs words) }

-- No number of jobs is said.
abbrev pub IsNoJobs : Option (List ℕ) → Type 0
IsNoJobs value = (jobs : ℕ) → IsJobs value jobs → ⊥

-- It isn't said whether absence and a lone dash are two values.
abbrev pub IsNoDash : Option (List ℕ) → Type 0
IsNoDash value = (two : Bool) → IsDash value two → ⊥

-- The command of the verb that has these words after the verb, or none where no such command is there.
abbrev pub Reads : (List (List ℕ) → Command → Type 0) → Verb → List (List ℕ) → Option Command → Type 0
Reads IsShape verb words found =
    MatchOption found ((c : Command) → c.verb ≡ verb → IsShape words c → ⊥) (λ c. (c.verb ≡ verb) × IsShape words c)

-- The command that the words are, or none where they are none.
abbrev pub ReadsWords : List (List ℕ) → Option Command → Type 0
ReadsWords words found = MatchOption found (IsBad words) (λ c. IsCommand words c)
