-- The rest of a text, which may begin inside a character.
use Rattle.std.specs.Prelude.{ℕ, List, ◌++◌}
use Rattle.std.specs.Str.{IsUtf8}

-- The bytes end some text.
abbrev pub EndsText : List ℕ → Type 0
EndsText rest = (before : List ℕ) × IsUtf8 (before ++ rest)
