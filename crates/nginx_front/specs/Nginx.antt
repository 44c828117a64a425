-- Formats as nginx's log_format spells them.
use Rattle.std.specs.Prelude.{ℕ, false, List}
use Rattle.lf_format.specs.Shape.{Shape}
use Rattle.lf_spelling.specs.Spelling as spelling
use Rattle.lf_format.specs.declared.format.LineEnd.TheVariants.{Lf}
use Rattle.lf_spelling.specs.declared.fault.Cause.{Cause}
use Rattle.nginx_front.specs.declared.table.Escape.{Escape}
use Rattle.nginx_front.specs.Reading.{item_is, fault_is}

-- Under the escape the text spells the format.
abbrev pub Spells : Escape → List ℕ → Shape → Type 0
Spells escape text format = spelling.Spells item_is (record { escape = escape }) Lf false text format

-- The text's first fault under the escape.
abbrev pub IsFaulty : Escape → List ℕ → ℕ → Cause → Type 0
IsFaulty escape text place cause = spelling.Faulty item_is fault_is (record { escape = escape }) text place cause

-- Under the escape the text spells one format, or it has one first fault.
abbrev pub HasOneAnswer : Escape → List ℕ → Type 0
HasOneAnswer escape text = spelling.HasOneAnswer item_is fault_is (record { escape = escape }) Lf false text
