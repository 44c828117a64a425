-- What reading letters from their words answers.
use Rattle.std.specs.Prelude.{◌≡◌, ℕ, List, ◌++◌}
use Rattle.lf_core.specs.declared.class.Class.{Class}
use Rattle.lf_domain.specs.Texts.{AllIn}
use Rattle.lf_escape.specs.Codes.{coded}
use Rattle.lf_escape.specs.Codings.{coding_word}
use Rattle.lf_escape.specs.declared.coding.Coding.{Coding}

-- The text is the words of letters of the class, and then what is left; the letters are added.
pub record Decodes (set : Class) (code : Coding) (text left old new : List ℕ) : Type 0 where
  pub letters : List ℕ
  pub members : AllIn set letters
  pub parts : text ≡ coded (coding_word code) letters ++ left
  pub added : new ≡ old ++ letters
