-- The escape after the name.
use Rattle.std.specs.Prelude.{ℕ, nat_eq, Bool, List, drop, codes, Option, Some, None, if◌then◌else◌}
use Rattle.std.specs.List.{starts_with}
use Rattle.std.specs.Str.{bytes_eq}
use Rattle.lf_spelling.specs.Runs.{run}
use Rattle.nginx_front.specs.declared.table.Escape.{Escape}
use Rattle.nginx_front.specs.declared.table.Escape.TheVariants.{Default, Json, Off}
use Rattle.nginx_front.specs.Bytes.{is_bare}

-- whether a text begins with a bare string that begins with `escape=`
abbrev pub names_escape : List ℕ → Bool
names_escape text = starts_with nat_eq (run is_bare text) (codes "escape=")

-- the escape of a value
abbrev pub escape_of : List ℕ → Option Escape
escape_of value =
    if bytes_eq value (codes "default") then Some Default else
    if bytes_eq value (codes "json") then Some Json else
    if bytes_eq value (codes "none") then Some Off else
    None

-- The escape of a text from its first part on: the rest of that bare string names it, and where none is named it is the default one.
abbrev pub escape_at : List ℕ → Option Escape
escape_at text = if names_escape text then escape_of (drop 7 (run is_bare text)) else Some Default
