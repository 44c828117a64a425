-- Formats as Envoy's access log spells them.
use Rattle.std.specs.Prelude.{ℕ, false, List}
use Rattle.std.specs.Io.BufRead.{strip_last}
use Rattle.lf_format.specs.Shape.{Shape}
use Rattle.lf_spelling.specs.Spelling as spelling
use Rattle.lf_format.specs.declared.format.LineEnd.TheVariants.{Lf}
use Rattle.lf_spelling.specs.declared.fault.Cause.{Cause}
use Rattle.envoy_front.specs.Reading.{item_is, fault_is}

-- the text without the line feed at its very end, if there is one: that one is the line's end
abbrev pub without_end : List ℕ → List ℕ
without_end text = strip_last 10 text

-- The text spells the format.
abbrev pub Spells : List ℕ → Shape → Type 0
Spells text format = spelling.Spells item_is (record {}) Lf false (without_end text) format

-- The text's first fault.
abbrev pub IsFaulty : List ℕ → ℕ → Cause → Type 0
IsFaulty text place cause = spelling.Faulty item_is fault_is (record {}) (without_end text) place cause

-- The text spells one format, or it has one first fault.
abbrev pub HasOneAnswer : List ℕ → Type 0
HasOneAnswer text = spelling.HasOneAnswer item_is fault_is (record {}) Lf false (without_end text)
