-- The variables: what their values are, how these are written, and how it is printed that there is none.
use Rattle.std.specs.Prelude.{ℕ, pos, false, List, [], ◌∷◌, codes, if◌then◌else◌}
use Rattle.std.specs.Int.Signed.{≤ℤ_refl}
use Rattle.std.specs.List.{list_any}
use Rattle.std.specs.Str.{bytes_eq}
use Rattle.lf_core.specs.declared.class.Class.{Class}
use Rattle.lf_core.specs.declared.class.TheConstants.Class as classes
use Rattle.lf_number.specs.declared.padded.Radix.TheVariants.{Ten}
use Rattle.lf_format.specs.declared.kind.Kind.{Kind}
use Rattle.lf_format.specs.declared.kind.Kind.TheVariants as kind
use Rattle.lf_escape.specs.declared.coding.Coding.{Coding}
use Rattle.lf_escape.specs.declared.coding.Coding.TheVariants.{Raw, NginxHex, NginxJson}
use Rattle.lf_format.specs.declared.slot.Absent.{Absent}
use Rattle.lf_format.specs.declared.slot.Absent.TheVariants.{No, Dash, Blank}
use Rattle.lf_format.specs.CommonKinds.{zero_fits, one_fits, texts, numbers, padded, fixed3}
use Rattle.lf_spelling.specs.Numbers.{greatest}
use Rattle.nginx_front.specs.declared.table.Escape.{Escape}
use Rattle.nginx_front.specs.declared.table.Escape.TheVariants.{Default, Json, Off}
use Rattle.nginx_front.specs.declared.table.Sort.{Sort}
use Rattle.nginx_front.specs.declared.table.Sort.TheVariants.{Visible, VisibleOrEmpty, PortNumber, Status, Count, Seconds, LocalTime, IsoTime, Pipe, Free}

-- Some names of variables, and the sort of their values.
pub record Entry : Type 0 where
  pub names : List (List ℕ)
  pub sort : Sort

-- an entry of the table
abbrev pub entry_of : List (List ℕ) → Sort → Entry
entry_of names sort = record { names = names; sort = sort }

-- the variables with a kind of their own; a variable that isn't here is any text
abbrev pub table : List Entry
table =
    entry_of (codes "remote_addr" ∷ codes "server_addr" ∷ codes "server_protocol" ∷ codes "request_method" ∷ codes "scheme" ∷ codes "request_id" ∷ codes "host" ∷ codes "hostname" ∷ []) Visible ∷
    entry_of (codes "server_name" ∷ []) VisibleOrEmpty ∷
    entry_of (codes "remote_port" ∷ codes "server_port" ∷ []) PortNumber ∷
    entry_of (codes "status" ∷ []) Status ∷
    entry_of (codes "body_bytes_sent" ∷ codes "bytes_sent" ∷ codes "connection" ∷ codes "connection_requests" ∷ codes "request_length" ∷ []) Count ∷
    entry_of (codes "msec" ∷ codes "request_time" ∷ []) Seconds ∷
    entry_of (codes "time_local" ∷ []) LocalTime ∷
    entry_of (codes "time_iso8601" ∷ []) IsoTime ∷
    entry_of (codes "pipe" ∷ []) Pipe ∷
    []

-- the sort of a name by some entries
abbrev pub sort_in : List Entry → List ℕ → Sort
sort_in [] name = Free
sort_in (entry ∷ entries) name = if list_any (λ own. bytes_eq name own) entry.names then entry.sort else sort_in entries name

-- the sort of a variable, by its name without the dollar sign
abbrev pub sort_of : List ℕ → Sort
sort_of name = sort_in table name

-- The letters of a text whose variable allows any: every byte where texts are escaped, and the bytes of a header where they are not (`escape=none`).
abbrev pub letters_of : Escape → Class
letters_of Default = classes.ANY
letters_of Json = classes.ANY
letters_of Off = classes.HEADER

-- the kind that a sort of values is
abbrev pub kind_of : Escape → Sort → Kind
kind_of escape Visible = texts classes.VISIBLE 1 one_fits
kind_of escape VisibleOrEmpty = texts classes.VISIBLE 0 zero_fits
kind_of escape PortNumber = numbers (pos 0) (pos 65535)
kind_of escape Status = padded Ten 3 (pos 0) (pos 999) (≤ℤ_refl (pos 0))
kind_of escape Count = numbers (pos 0) (pos greatest)
kind_of escape Seconds = fixed3 (pos 0) (pos greatest) (≤ℤ_refl (pos 0))
kind_of escape LocalTime = kind.Clf (record { bracketed = false })
kind_of escape IsoTime = kind.Iso (record {})
kind_of escape Pipe = kind.Words (record { list = codes "p" ∷ codes "." ∷ [] })
kind_of escape Free = texts (letters_of escape) 0 zero_fits

-- the code of texts
abbrev pub code_by : Escape → Coding
code_by Default = NginxHex
code_by Json = NginxJson
code_by Off = Raw

-- texts are escaped, and nothing else is
abbrev pub code_of : Escape → Sort → Coding
code_of escape Visible = code_by escape
code_of escape VisibleOrEmpty = code_by escape
code_of escape Free = code_by escape
code_of escape _ = Raw

-- what stands where there is no value: a dash, or nothing
abbrev pub absence_by : Escape → Absent
absence_by Default = Dash
absence_by Json = Blank
absence_by Off = Blank

-- texts and ports may be missing
abbrev pub absence_of : Escape → Sort → Absent
absence_of escape Visible = absence_by escape
absence_of escape VisibleOrEmpty = absence_by escape
absence_of escape Free = absence_by escape
absence_of escape PortNumber = absence_by escape
absence_of escape _ = No
