-- The words of the codes without hexadecimal digits, but HAProxy's. Each takes all letters but the line feed.
use Rattle.std.specs.Prelude.{ℕ, List, [], ◌∷◌, if◌then◌else◌, ◌==◌}

-- Each letter stands for itself.
abbrev pub raw_word : ℕ → List ℕ
raw_word letter = letter ∷ []

-- A space is written `+`, as a plus sign is.
abbrev pub plus_word : ℕ → List ℕ
plus_word letter = (if letter == 32 then 43 else letter) ∷ []

-- A double quote is doubled.
abbrev pub doubled_word : ℕ → List ℕ
doubled_word letter = if letter == 34 then 34 ∷ 34 ∷ [] else letter ∷ []

-- How many proper prefixes the words have, the empty one counted.
abbrev pub raw_prefixes : ℕ
raw_prefixes = 1

abbrev pub plus_prefixes : ℕ
plus_prefixes = 1

abbrev pub doubled_prefixes : ℕ
doubled_prefixes = 2
