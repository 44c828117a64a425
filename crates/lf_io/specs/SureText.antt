-- A text that is given piece by piece, without faults.
use Rattle.std.specs.Prelude.{◌≡◌, ℕ, List, [], ◌≤◌, min, length, drop}
use Rattle.lf_io.specs.declared.source.Pulled.{Pulled}
use Rattle.lf_io.specs.declared.source.Pulled.TheVariants as pulled

-- The bytes that are left, and the most that a pull takes.
pub record SureText : Type 0 where
  pub left : List ℕ
  pub piece : ℕ

-- A pull takes the least of the piece, the buffer and the rest. It tells the end where nothing is left. It never fails.
abbrev pub Gives : SureText → ℕ → Pulled → Type 0
Gives s room (pulled.Took n) = (1 ≤ n) × (n ≡ min (min s.piece room) (length s.left))
Gives s room pulled.End = s.left ≡ []
Gives s room pulled.Failed = ⊥

-- The text after an answer: without the bytes that were taken.
abbrev pub after_giving : SureText → Pulled → SureText
after_giving s (pulled.Took n) = record s { left = drop n s.left }
after_giving s pulled.End = s
after_giving s pulled.Failed = s
