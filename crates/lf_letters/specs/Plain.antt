-- Letters that stand for themselves, in the line and in JSON.
use Rattle.std.specs.Prelude.{◌≡◌, ℕ, ◌<◌, List, [], ◌∷◌, true, false}
use Rattle.lf_core.specs.Class.{is_letter}
use Rattle.lf_core.specs.declared.class.Class.{Class}
use Rattle.lf_escape.specs.Codings.{coding_word}
use Rattle.lf_escape.specs.declared.coding.Coding.{Coding}
use Rattle.lf_json.specs.Text.{is_escaped}

-- The letter is of the class, its word is the letter alone, and it is of ASCII and has no escape in JSON.
pub record IsPlain (set : Class) (code : Coding) (letter : ℕ) : Type 0 where
  pub member : is_letter set letter ≡ true
  pub alone : coding_word code letter ≡ letter ∷ []
  pub ascii : letter < 128
  pub bare : is_escaped letter ≡ false

-- The letters are of ASCII and have no escape in JSON.
abbrev pub AreBare : List ℕ → Type 0
AreBare [] = Unit {0}
AreBare (letter ∷ letters) = (letter < 128) × (is_escaped letter ≡ false) × AreBare letters

-- All letters are plain.
abbrev pub ArePlain : Class → Coding → List ℕ → Type 0
ArePlain set code [] = Unit {0}
ArePlain set code (letter ∷ letters) = IsPlain set code letter × ArePlain set code letters
