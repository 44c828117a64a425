-- The longest run of bytes at the start of a text, and what follows it.
use Rattle.std.specs.Prelude.{ℕ, not, Bool, true, List, [], ◌∷◌, if◌then◌else◌}

-- the longest run of bytes that pass the test
abbrev pub run : (ℕ → Bool) → List ℕ → List ℕ
run p [] = []
run p (b ∷ text) = if p b then b ∷ run p text else []

-- what follows that run
abbrev pub past : (ℕ → Bool) → List ℕ → List ℕ
past p [] = []
past p (b ∷ text) = if p b then past p text else b ∷ text

-- whether the text is empty, or begins with a byte that does not pass the test
abbrev pub stops : (ℕ → Bool) → List ℕ → Bool
stops p [] = true
stops p (b ∷ text) = not (p b)
