-- The names: what each stands for, and how absence is printed where no flag acts.
use Rattle.std.specs.Prelude.{ℕ, List, [], ◌∷◌, Option, Some, None, codes, if◌then◌else◌}
use Rattle.std.specs.List.{list_any}
use Rattle.std.specs.Str.{bytes_eq}
use Rattle.lf_format.specs.declared.slot.Absent.{Absent}
use Rattle.lf_format.specs.declared.slot.Absent.TheVariants.{No, Dash}
use Rattle.haproxy_front.specs.declared.table.Sort.{Sort}
use Rattle.haproxy_front.specs.declared.table.Sort.TheVariants.{Visible, Proxy, Path, Cookie, Query, Request, Ending, CookieEnding, Retries, Captures, Port, Serial, Status, Timer, Size, Count, Time}
use Rattle.haproxy_front.specs.declared.table.Row.{Row}

-- Some names and the row that they have.
pub record Entry : Type 0 where
  pub names : List (List ℕ)
  pub row : Row

-- an entry of the table
abbrev pub entry_of : List (List ℕ) → Sort → Absent → Entry
entry_of names sort absent = record { names = names; row = record { sort = sort; absent = absent } }

-- every name: the sort of its values, and what stands for a missing one
abbrev pub table : List Entry
table =
    entry_of (codes "ci" ∷ codes "fi" ∷ codes "bi" ∷ codes "si" ∷ codes "H" ∷ codes "HM" ∷ codes "HV" ∷ []) Visible Dash ∷
    entry_of (codes "f" ∷ codes "ft" ∷ codes "b" ∷ codes "s" ∷ []) Proxy Dash ∷
    entry_of (codes "HP" ∷ codes "HU" ∷ []) Path Dash ∷
    entry_of (codes "ID" ∷ codes "CC" ∷ codes "CS" ∷ []) Cookie Dash ∷
    entry_of (codes "HQ" ∷ []) Query Dash ∷
    entry_of (codes "r" ∷ []) Request Dash ∷
    entry_of (codes "ts" ∷ []) Ending No ∷
    entry_of (codes "tsc" ∷ []) CookieEnding No ∷
    entry_of (codes "rc" ∷ []) Retries No ∷
    entry_of (codes "hr" ∷ codes "hs" ∷ []) Captures No ∷
    entry_of (codes "cp" ∷ []) Port No ∷
    entry_of (codes "fp" ∷ codes "bp" ∷ codes "sp" ∷ []) Port Dash ∷
    entry_of (codes "Ts" ∷ codes "rt" ∷ codes "pid" ∷ []) Serial No ∷
    entry_of (codes "ST" ∷ []) Status No ∷
    entry_of (codes "Ta" ∷ codes "Tc" ∷ codes "Td" ∷ codes "Th" ∷ codes "Ti" ∷ codes "Tq" ∷ codes "TR" ∷ codes "Tr" ∷ codes "Tt" ∷ codes "Tw" ∷ []) Timer No ∷
    entry_of (codes "B" ∷ codes "U" ∷ []) Size No ∷
    entry_of (codes "ac" ∷ codes "bc" ∷ codes "fc" ∷ codes "sc" ∷ codes "sq" ∷ codes "bq" ∷ []) Count No ∷
    entry_of (codes "t" ∷ codes "tr" ∷ []) Time No ∷
    []

-- the row of a name in some entries
abbrev pub row_in : List Entry → List ℕ → Option Row
row_in [] name = None
row_in (entry ∷ entries) name = if list_any (λ own. bytes_eq name own) entry.names then Some entry.row else row_in entries name

-- the row of a name
abbrev pub row_of : List ℕ → Option Row
row_of name = row_in table name
