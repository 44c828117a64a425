-- What a reader finds at the start of a text.
use Rattle.std.specs.Prelude.{ℕ, ◌==◌, not, List, [], ◌∷◌, ◌++◌, Option, Some, None, codes, if◌then◌else◌}
use Rattle.std.specs.Str.{bytes_eq}
use Rattle.lf_spelling.specs.Runs.{run, past}
use Rattle.lf_spelling.specs.Texts.{is_nothing}
use Rattle.lf_spelling.specs.Enclosed.{is_unclosed}
use Rattle.lf_spelling.specs.Items.{Item, Reading, Found, Failed}
use Rattle.lf_spelling.specs.declared.fault.Cause.{Cause}
use Rattle.lf_spelling.specs.declared.fault.Cause.TheVariants.{LineBreak, EmptyFormat, BadFlags, Unclosed, UnknownName, BadName}
use Rattle.lf_spelling.specs.declared.item_reader.Given.{Given}
use Rattle.lf_spelling.specs.declared.item_reader.Given.TheVariants.{Nothing, Byte}
use Rattle.haproxy_front.specs.declared.flags.Flags.{Flags}
use Rattle.haproxy_front.specs.declared.table.Row.{Row}
use Rattle.haproxy_front.specs.Names.{is_alphanumeric}
use Rattle.haproxy_front.specs.Table.{row_of}
use Rattle.haproxy_front.specs.Slots.{slot_of, given_of}
use Rattle.haproxy_front.specs.Items.{is_space, flags_of, after_flags, are_good, braced, changed_by, IsItem, HasFault}

-- an item that leaves these flags
abbrev pub found : List ℕ → Given → Flags → List ℕ → Reading Flags
found bytes given next after = Found (record { bytes = bytes; given = given; state = next }) after

-- by the row of the name, which these bytes end
abbrev pub on_row : Flags → Flags → List ℕ → List ℕ → List ℕ → Option Row → Reading Flags
on_row held own bytes name after None = Failed UnknownName
on_row held own bytes name after (Some row) = found bytes (given_of row.sort (slot_of name row own)) held after

-- by the name, under the item's own flags
abbrev pub on_name : Flags → Flags → List ℕ → List ℕ → List ℕ → Reading Flags
on_name held own bytes name after =
    if is_nothing name then Failed BadName else
    if bytes_eq name (codes "o") then found bytes Nothing own after else
    on_row held own bytes name after (row_of name)

-- by what follows these bytes: the name and the rest
abbrev pub on_named : Flags → Flags → List ℕ → List ℕ → Reading Flags
on_named held own front text = on_name held own (front ++ run is_alphanumeric text) (run is_alphanumeric text) (past is_alphanumeric text)

-- by what follows the percent sign of an item
abbrev pub on_item : Flags → List ℕ → Reading Flags
on_item held text =
    if is_unclosed 123 125 text then Failed Unclosed else
    if not (are_good (flags_of text)) then Failed BadFlags else
    on_named held (changed_by held (flags_of text)) (37 ∷ braced (flags_of text)) (after_flags text)

-- by what follows a percent sign
abbrev pub on_percent : Flags → List ℕ → Reading Flags
on_percent held [] = on_item held []
on_percent held (c ∷ text) = if c == 37 then found (37 ∷ 37 ∷ []) (Byte 37) held text else on_item held (c ∷ text)

-- what is found at the start of a text
abbrev pub reading : Flags → List ℕ → Reading Flags
reading held [] = Failed EmptyFormat
reading held (b ∷ text) =
    if b == 10 then Failed LineBreak else
    if b == 32 then found (32 ∷ run is_space text) (Byte 32) held (past is_space text) else
    if b == 37 then on_percent held text else
    found (b ∷ []) (Byte b) held text

-- The item stands before these bytes.
abbrev pub item_is : Flags → Item Flags → List ℕ → Type 0
item_is held item after = IsItem held item.bytes item.given item.state after

-- No item stands at the start of these bytes, for this cause.
abbrev pub fault_is : Flags → List ℕ → Cause → Type 0
fault_is held text cause = HasFault text cause
