-- A text in memory as a source that fails at listed calls.
use Rattle.std.specs.Prelude.{ℕ, List, Contains}
use Rattle.lf_io.specs.Faults.{one_more}
use Rattle.lf_io.specs.SureText.{SureText, Gives, after_giving}
use Rattle.lf_io.specs.declared.source.Pulled.{Pulled}
use Rattle.lf_io.specs.declared.source.Pulled.TheVariants as pulled

-- The text that is left, the numbers of the calls that fail, the number of the next call, and the count of faults.
pub record MemorySource : Type 0 where
  pub text : SureText
  pub failing : List ℕ
  pub calls : ℕ
  pub faults : ℕ

-- The number of the next call is listed.
abbrev pub FailsNext : MemorySource → Type 0
FailsNext s = Contains s.failing s.calls

-- A pull fails exactly where its number is listed. Each other pull gives of the text.
abbrev pub Answers : MemorySource → ℕ → Pulled → Type 0
Answers s room (pulled.Took n) = (¬ FailsNext s) × Gives s.text room (pulled.Took n)
Answers s room pulled.End = (¬ FailsNext s) × Gives s.text room pulled.End
Answers s room pulled.Failed = FailsNext s

-- The source after an answer: the call is counted, and so is a fault. A fault leaves the text as it was.
abbrev pub after_pull : MemorySource → Pulled → MemorySource
after_pull s (pulled.Took n) = record s { text = after_giving s.text (pulled.Took n); calls = one_more s.calls }
after_pull s pulled.End = record s { calls = one_more s.calls }
after_pull s pulled.Failed = record s { calls = one_more s.calls; faults = one_more s.faults }
