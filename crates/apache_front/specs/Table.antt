-- The directives: the letters, the names that they take, what the slot holds, and how it prints that nothing is there.
use Rattle.std.specs.Prelude.{ℕ, pos, ◌==◌, ◌&&◌, ◌||◌, not, Bool, true, false, List, [], ◌∷◌, Option, Some, None, codes, if◌then◌else◌}
use Rattle.std.specs.Int.Signed.{≤ℤ_refl}
use Rattle.std.specs.List.{list_any, list_all}
use Rattle.std.specs.Str.{bytes_eq}
use Rattle.lf_core.specs.declared.class.TheConstants.Class as classes
use Rattle.lf_format.specs.declared.kind.Kind.{Kind}
use Rattle.lf_format.specs.declared.kind.Kind.TheVariants as kind
use Rattle.lf_escape.specs.declared.coding.Coding.{Coding}
use Rattle.lf_escape.specs.declared.coding.Coding.TheVariants.{Raw, ApacheHex}
use Rattle.lf_format.specs.declared.slot.Absent.{Absent}
use Rattle.lf_format.specs.declared.slot.Absent.TheVariants.{No, Dash}
use Rattle.lf_format.specs.CommonKinds.{zero_fits, one_fits, texts, numbers, dashed}
use Rattle.lf_spelling.specs.Numbers.{greatest}
use Rattle.apache_front.specs.declared.table.Names.{Names}
use Rattle.apache_front.specs.declared.table.Names.TheVariants.{Never, Always, Client, Port, Process, Unit as UnitName}
use Rattle.apache_front.specs.declared.table.Sort.{Sort}
use Rattle.apache_front.specs.declared.table.Sort.TheVariants.{Visible, Filled, Free, Query, Count, DashCount, PortNumber, Status, Time, Connection}
use Rattle.apache_front.specs.declared.table.Row.{Row}

-- Some letters and the row that they have.
pub record Entry : Type 0 where
  pub letters : List ℕ
  pub row : Row

-- an entry of the table
abbrev pub entry_of : List ℕ → Names → Sort → Absent → Entry
entry_of letters names sort absent = record { letters = letters; row = record { names = names; sort = sort; absent = absent } }

-- every letter of a directive: the names that it takes, the sort of its values, and what stands for a missing one
abbrev pub table : List Entry
table =
    entry_of (codes "ah") Client Visible Dash ∷
    entry_of (codes "AHlLmRvV") Never Visible Dash ∷
    entry_of (codes "fuU") Never Filled Dash ∷
    entry_of (codes "r") Never Free Dash ∷
    entry_of (codes "Ceino") Always Free Dash ∷
    entry_of (codes "q") Never Query No ∷
    entry_of (codes "BDIkO") Never Count No ∷
    entry_of (codes "b") Never DashCount No ∷
    entry_of (codes "p") Port PortNumber No ∷
    entry_of (codes "P") Process Count No ∷
    entry_of (codes "T") UnitName Count No ∷
    entry_of (codes "s") Never Status Dash ∷
    entry_of (codes "t") Never Time No ∷
    entry_of (codes "X") Never Connection No ∷
    []

-- the row of a letter in some entries
abbrev pub row_in : List Entry → ℕ → Option Row
row_in [] letter = None
row_in (entry ∷ entries) letter = if list_any (λ l. letter == l) entry.letters then Some entry.row else row_in entries letter

-- the row of a letter
abbrev pub row_of : ℕ → Option Row
row_of letter = row_in table letter

-- the kind that a sort of values is
abbrev pub kind_of : Sort → Kind
kind_of Visible = texts classes.VISIBLE 1 one_fits
kind_of Filled = texts classes.ANY 1 one_fits
kind_of Free = texts classes.ANY 0 zero_fits
kind_of Query = kind.Query (record { class = classes.ANY })
kind_of Count = numbers (pos 0) (pos greatest)
kind_of DashCount = dashed (pos 0) (pos greatest) (≤ℤ_refl (pos 0))
kind_of PortNumber = numbers (pos 0) (pos 65535)
kind_of Status = numbers (pos 100) (pos 999)
kind_of Time = kind.Clf (record { bracketed = true })
kind_of Connection = kind.Words (record { list = codes "X" ∷ codes "+" ∷ codes "-" ∷ [] })

-- texts are escaped, and nothing else is
abbrev pub code_of : Kind → Coding
code_of (kind.Text set) = ApacheHex
code_of (kind.Query set) = ApacheHex
code_of _ = Raw

-- whether a name is one that the letter takes
abbrev pub is_listed : Names → List ℕ → Bool
is_listed Never name = false
is_listed Always name = true
is_listed Client name = bytes_eq name (codes "c")
is_listed Port name = bytes_eq name (codes "canonical") || bytes_eq name (codes "local") || bytes_eq name (codes "remote")
is_listed Process name = bytes_eq name (codes "pid") || bytes_eq name (codes "tid")
is_listed UnitName name = bytes_eq name (codes "s") || bytes_eq name (codes "ms") || bytes_eq name (codes "us")

-- whether a name is needed
abbrev pub is_needed : Names → Bool
is_needed Always = true
is_needed _ = false

-- a name isn't empty and holds no line feed
abbrev pub is_name : List ℕ → Bool
is_name [] = false
is_name (b ∷ name) = list_all (λ c. not (c == 10)) (b ∷ name)

-- whether the letter takes the name, or takes none where none stands
abbrev pub takes : Names → Option (List ℕ) → Bool
takes names None = not (is_needed names)
takes names (Some name) = is_name name && is_listed names name
