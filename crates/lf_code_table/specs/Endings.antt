-- The letters of a code by the last bytes of their words.
use Rattle.std.specs.Prelude.{◌≡◌, ℕ, zero, suc, ◌<◌, List, [], ◌∷◌, ◌++◌, length, get_or, Option, map, Bool, cond, ◌==◌}
use Rattle.lf_escape.specs.Codings.{coding_takes, coding_word}
use Rattle.lf_escape.specs.declared.coding.Coding.{Coding}
use Rattle.lf_code_table.specs.Lone.{lone_of, HasFirsts}
use Rattle.lf_code_table.specs.Table.{table_of}

-- the last byte of a word, and 0 where there is none
abbrev pub last_of : List ℕ → ℕ
last_of [] = 0
last_of (b ∷ []) = b
last_of (b ∷ c ∷ bs) = last_of (c ∷ bs)

-- the letters below a bound whose words the byte ends, in rising order
unfoldable pub letters_ending : (ℕ → Bool) → (ℕ → List ℕ) → ℕ → ℕ → List ℕ
letters_ending takes word byte zero = []
letters_ending takes word byte (suc n) =
    letters_ending takes word byte n ++ cond (takes n) (cond (last_of (word n) == byte) (n ∷ []) []) []

-- The lists hold, for each byte, the letters below the bound whose words it ends.
pub record HasEndings (takes : ℕ → Bool) (word : ℕ → List ℕ) (lists : List (List ℕ)) (bound : ℕ) : Type 0 where
  pub many : length lists ≡ 256
  pub each : (byte : ℕ) → byte < 256 → get_or lists byte [] ≡ letters_ending takes word byte bound

-- What the table of a code keeps.
pub record IsTableOf (code : Coding) (prefixes endings lone : List (List ℕ)) (firsts : List (Option ℕ)) : Type 0 where
  pub same : prefixes ≡ table_of code
  pub least : 0 < length (table_of code)
  pub most : length (table_of code) < 256
  pub ended : HasEndings (coding_takes code) (coding_word code) endings 256
  pub alone : lone ≡ map (lone_of (coding_takes code) (coding_word code)) endings
  pub first : HasFirsts (table_of code) firsts 256
