-- Formats as Apache's LogFormat spells them.
use Rattle.std.specs.Prelude.{ℕ, false, List}
use Rattle.lf_format.specs.Shape.{Shape}
use Rattle.lf_spelling.specs.Spelling as spelling
use Rattle.lf_format.specs.declared.format.LineEnd.TheVariants.{Lf}
use Rattle.lf_spelling.specs.declared.fault.Cause.{Cause}
use Rattle.apache_front.specs.Reading.{item_is, fault_is}

-- The text spells the format.
abbrev pub Spells : List ℕ → Shape → Type 0
Spells text format = spelling.Spells item_is (record {}) Lf false text format

-- The text's first fault.
abbrev pub IsFaulty : List ℕ → ℕ → Cause → Type 0
IsFaulty text place cause = spelling.Faulty item_is fault_is (record {}) text place cause

-- The text spells one format, or it has one first fault.
abbrev pub HasOneAnswer : List ℕ → Type 0
HasOneAnswer text = spelling.HasOneAnswer item_is fault_is (record {}) Lf false text
