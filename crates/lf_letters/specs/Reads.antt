-- What reading letters answers.
use Rattle.std.specs.Prelude.{◌≡◌, ℕ, List, ◌++◌, length}
use Rattle.lf_core.specs.declared.class.Class.{Class}
use Rattle.lf_domain.specs.Texts.{AllIn}
use Rattle.lf_escape.specs.Codes.{coded}
use Rattle.lf_escape.specs.Codings.{coding_word}
use Rattle.lf_escape.specs.declared.coding.Coding.{Coding}
use Rattle.lf_json.specs.Text.{text_json}

-- The text is the words of so many letters of the class, and then what is left; the JSON of the lead and the letters is added.
pub record ReadsLetters (set : Class) (code : Coding) (lead : List ℕ) (count : ℕ) (text left old new : List ℕ) : Type 0 where
  pub letters : List ℕ
  pub members : AllIn set letters
  pub many : length letters ≡ count
  pub written : text ≡ coded (coding_word code) letters ++ left
  pub added : new ≡ old ++ text_json (lead ++ letters)
