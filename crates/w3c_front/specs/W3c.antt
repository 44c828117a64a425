-- Formats as lists of fields: those of the draft, and those of IIS.
use Rattle.std.specs.Prelude.{ℕ, true, List}
use Rattle.lf_format.specs.Shape.{Shape}
use Rattle.lf_spelling.specs.Spelling as spelling
use Rattle.lf_format.specs.declared.format.LineEnd.TheVariants.{Lf, CrLf}
use Rattle.lf_spelling.specs.declared.fault.Cause.{Cause}
use Rattle.w3c_front.specs.declared.table.Language.TheVariants.{Draft, Iis}
use Rattle.w3c_front.specs.Reading.{start, item_is, fault_is}

-- The text spells the format in the draft's fields: lines end with a line feed, and those that begin with `#` are notes.
abbrev pub SpellsDraft : List ℕ → Shape → Type 0
SpellsDraft text format = spelling.Spells item_is (start Draft) Lf true text format

-- The text's first fault in the draft's fields.
abbrev pub IsFaultyDraft : List ℕ → ℕ → Cause → Type 0
IsFaultyDraft text place cause = spelling.Faulty item_is fault_is (start Draft) text place cause

-- The text spells one format in the draft's fields, or it has one first fault.
abbrev pub HasOneDraftAnswer : List ℕ → Type 0
HasOneDraftAnswer text = spelling.HasOneAnswer item_is fault_is (start Draft) Lf true text

-- The text spells the format in the fields of IIS: lines end with a carriage return and a line feed, and those that begin with `#` are notes.
abbrev pub SpellsIis : List ℕ → Shape → Type 0
SpellsIis text format = spelling.Spells item_is (start Iis) CrLf true text format

-- The text's first fault in the fields of IIS.
abbrev pub IsFaultyIis : List ℕ → ℕ → Cause → Type 0
IsFaultyIis text place cause = spelling.Faulty item_is fault_is (start Iis) text place cause

-- The text spells one format in the fields of IIS, or it has one first fault.
abbrev pub HasOneIisAnswer : List ℕ → Type 0
HasOneIisAnswer text = spelling.HasOneAnswer item_is fault_is (start Iis) CrLf true text
