-- The fields: their identifiers, what they hold, and how they are printed.
use Rattle.std.specs.Prelude.{ℕ, pos, Bool, true, false, List, [], ◌∷◌, Option, Some, None, codes, if◌then◌else◌}
use Rattle.std.specs.List.{list_any}
use Rattle.std.specs.Str.{bytes_eq}
use Rattle.lf_core.specs.declared.class.TheConstants.Class as classes
use Rattle.lf_format.specs.declared.kind.Kind.{Kind}
use Rattle.lf_format.specs.declared.kind.Kind.TheVariants as kind
use Rattle.lf_escape.specs.declared.coding.Coding.{Coding}
use Rattle.lf_escape.specs.declared.coding.Coding.TheVariants.{Raw, PlusSpace, Doubled}
use Rattle.lf_format.specs.CommonKinds.{zero_fits, one_fits, texts, numbers}
use Rattle.lf_spelling.specs.Numbers.{greatest}
use Rattle.w3c_front.specs.declared.table.Language.{Language}
use Rattle.w3c_front.specs.declared.table.Language.TheVariants.{Draft, Iis}
use Rattle.w3c_front.specs.declared.table.Sort.{Sort}
use Rattle.w3c_front.specs.declared.table.Sort.TheVariants.{Day, Clock, Decimal, Count, Cached, Status, Visible, Word, Comment, Bare, Spaced, PortNumber, SystemCode}

-- Some names and the sort of their values.
pub record Entry : Type 0 where
  pub names : List (List ℕ)
  pub sort : Sort

-- an entry of a table
abbrev pub entry_of : List (List ℕ) → Sort → Entry
entry_of names sort = record { names = names; sort = sort }

-- the prefixes: client, server and remote, and from one to another; before the name of a header IIS has one alone
abbrev pub prefixes : Language → List (List ℕ)
prefixes Draft = codes "c" ∷ codes "s" ∷ codes "r" ∷ codes "cs" ∷ codes "sc" ∷ codes "sr" ∷ codes "rs" ∷ []
prefixes Iis = codes "cs" ∷ []

-- the draft's fields without a prefix
abbrev pub draft_fields : List Entry
draft_fields =
    entry_of (codes "date" ∷ []) Day ∷
    entry_of (codes "time" ∷ []) Clock ∷
    entry_of (codes "time-taken" ∷ []) Decimal ∷
    entry_of (codes "bytes" ∷ []) Count ∷
    entry_of (codes "cached" ∷ []) Cached ∷
    []

-- the draft's fields after a prefix and a dash
abbrev pub prefixed_fields : List Entry
prefixed_fields =
    entry_of (codes "status" ∷ []) Status ∷
    entry_of (codes "ip" ∷ codes "dns" ∷ codes "method" ∷ []) Visible ∷
    entry_of (codes "uri" ∷ codes "uri-stem" ∷ codes "uri-query" ∷ []) Word ∷
    entry_of (codes "comment" ∷ []) Comment ∷
    []

-- the fields of IIS that hold no space and no plus sign
abbrev pub bare_fields : List (List ℕ)
bare_fields = codes "s-sitename" ∷ codes "s-computername" ∷ codes "s-ip" ∷ codes "c-ip" ∷ codes "cs-method" ∷ codes "cs-version" ∷ codes "cs-host" ∷ []

-- the fields of IIS, all but those with a header's name
abbrev pub iis_fields : List Entry
iis_fields =
    entry_of (codes "date" ∷ []) Day ∷
    entry_of (codes "time" ∷ []) Clock ∷
    entry_of bare_fields Bare ∷
    entry_of (codes "cs-uri-stem" ∷ codes "cs-uri-query" ∷ codes "cs-username" ∷ []) Spaced ∷
    entry_of (codes "s-port" ∷ []) PortNumber ∷
    entry_of (codes "sc-status" ∷ codes "sc-substatus" ∷ []) Status ∷
    entry_of (codes "sc-win32-status" ∷ []) SystemCode ∷
    entry_of (codes "sc-bytes" ∷ codes "cs-bytes" ∷ codes "time-taken" ∷ []) Count ∷
    []

-- what a field with a header's name has
abbrev pub header_sort : Language → Sort
header_sort Draft = Comment
header_sort Iis = Spaced

-- whether a text is one of these
abbrev pub is_listed : List (List ℕ) → List ℕ → Bool
is_listed names text = list_any (λ name. bytes_eq text name) names

-- the sort of a name in some entries
abbrev pub sort_in : List Entry → List ℕ → Option Sort
sort_in [] name = None
sort_in (entry ∷ entries) name = if is_listed entry.names name then Some entry.sort else sort_in entries name

-- the kind that a sort of values is
abbrev pub kind_of : Sort → Kind
kind_of Day = kind.Date (record {})
kind_of Clock = kind.Clock (record {})
kind_of Decimal = texts classes.DECIMAL 1 one_fits
kind_of Count = numbers (pos 0) (pos greatest)
kind_of Cached = numbers (pos 0) (pos 1)
kind_of Status = numbers (pos 0) (pos 999)
kind_of Visible = texts classes.VISIBLE 1 one_fits
kind_of Word = texts classes.WORD 1 one_fits
kind_of Comment = texts classes.HEADER 0 zero_fits
kind_of Bare = texts classes.IIS_WORD 1 one_fits
kind_of Spaced = texts classes.SPACED 1 one_fits
kind_of PortNumber = numbers (pos 0) (pos 65535)
kind_of SystemCode = numbers (pos 0) (pos 4294967295)

-- in a comment a quote is doubled, and IIS writes a space as a plus sign
abbrev pub code_of : Sort → Coding
code_of Comment = Doubled
code_of Bare = PlusSpace
code_of Spaced = PlusSpace
code_of _ = Raw

-- a comment stands in quotes
abbrev pub is_quoted : Sort → Bool
is_quoted Comment = true
is_quoted _ = false
