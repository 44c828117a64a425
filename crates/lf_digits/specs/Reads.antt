-- What reading a number answers.
use Rattle.std.specs.Prelude.{◌≡◌, ℕ, ℤ, List, ◌++◌}
use Rattle.lf_number.specs.Numbers.{IsBetween, number_text}

-- The text is that of a number from lo to hi, and then what is left; the number's decimal text is added.
pub record ReadsNumber (text_of : ℤ → List ℕ) (lo hi : ℤ) (text left old new : List ℕ) : Type 0 where
  pub number : ℤ
  pub between : IsBetween lo hi number
  pub written : text ≡ text_of number ++ left
  pub added : new ≡ old ++ number_text number
