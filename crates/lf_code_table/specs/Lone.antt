-- Letters whose words are one byte, and proper prefixes of one byte.
use Rattle.std.specs.Prelude.{◌≡◌, ℕ, ◌<◌, ◌==◌, List, [], ◌∷◌, length, get_or, Option, None, Bool, false, cond}
use Rattle.lf_code_table.specs.Table.{index_of}

-- whether the letter is taken and its word is one byte
abbrev pub is_lone : (ℕ → Bool) → (ℕ → List ℕ) → ℕ → Bool
is_lone takes word c = cond (takes c) (length (word c) == 1) false

-- those of the letters that are taken and whose words are one byte
abbrev pub lone_of : (ℕ → Bool) → (ℕ → List ℕ) → List ℕ → List ℕ
lone_of takes word [] = []
lone_of takes word (c ∷ cs) = cond (is_lone takes word c) (c ∷ lone_of takes word cs) (lone_of takes word cs)

-- The list has, for each byte below the bound, the number of the text that is this byte.
pub record HasFirsts (table : List (List ℕ)) (firsts : List (Option ℕ)) (bound : ℕ) : Type 0 where
  pub many : length firsts ≡ bound
  pub each : (byte : ℕ) → byte < bound → get_or firsts byte None ≡ index_of table (byte ∷ [])
