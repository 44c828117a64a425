-- What a reader finds at the start of a text.
use Rattle.std.specs.Prelude.{◌≡◌, ℕ, ◌+◌, ◌-◌, ◌==◌, not, Bool, true, length, take, Result, Ok, Err, List, [], ◌∷◌, Option, Some, None, if◌then◌else◌}
use Rattle.lf_spelling.specs.Items.{Item, Reading, Found, Failed}
use Rattle.lf_spelling.specs.declared.fault.Cause.TheVariants.{LineBreak, EmptyFormat, BadFlags, Unclosed, UnknownName, BadName}
use Rattle.lf_spelling.specs.ItemReaders.{GivesItem}
use Rattle.lf_spelling.specs.Enclosed.{is_unclosed}
use Rattle.lf_spelling.specs.declared.item_reader.Taken.{Taken}
use Rattle.lf_spelling.specs.declared.fault.Cause.{Cause}
use Rattle.lf_spelling.specs.declared.fault.ItemFault.{ItemFault}
use Rattle.lf_spelling.specs.declared.fault.ItemFault.TheVariants as fault
use Rattle.lf_format.specs.declared.slot.Absent.TheVariants.{Dash}
use Rattle.lf_spelling.specs.declared.item_reader.Given.{Given}
use Rattle.lf_spelling.specs.declared.item_reader.Given.TheVariants.{Byte, Slot}
use Rattle.apache_front.specs.declared.front.Apache.{Apache}
use Rattle.apache_front.specs.declared.table.Row.{Row}
use Rattle.apache_front.specs.Table.{row_of, takes}
use Rattle.apache_front.specs.Directive.{Directive, spelling, slot_of, row_slot, letter_cause, are_flags, flags_of, after_flags, side_of, after_side, name_of, after_name}
use Rattle.apache_front.specs.Items.{escaped, IsItem, HasFault}

-- an item that leaves the only state
abbrev pub found : List ℕ → Given → List ℕ → Reading Apache
found bytes given after = Found (record { bytes = bytes; given = given; state = record {} }) after

-- by the row of the letter
abbrev pub on_row : Directive → List ℕ → Option Row → Reading Apache
on_row d after None = Failed UnknownName
on_row d after (Some row) = if takes row.names d.name then found (spelling d) (Slot (slot_of d row)) after else Failed BadName

-- by the letter and what stands before it
abbrev pub on_letter : List ℕ → List ℕ → Option (List ℕ) → List ℕ → Reading Apache
on_letter flags side name [] = Failed Unclosed
on_letter flags side name (letter ∷ after) = on_row (record { flags = flags; side = side; name = name; letter = letter }) after (row_of letter)

-- by what follows the percent sign of a directive
abbrev pub on_directive : List ℕ → Reading Apache
on_directive text =
    let sided = after_flags text in
    let named = after_side sided in
    if not (are_flags (flags_of text)) then Failed BadFlags else
    if is_unclosed 123 125 named then Failed Unclosed else
    on_letter (flags_of text) (side_of sided) (name_of named) (after_name named)

-- by what follows a percent sign
abbrev pub on_percent : List ℕ → Reading Apache
on_percent [] = on_directive []
on_percent (c ∷ text) = if c == 37 then found (37 ∷ 37 ∷ []) (Byte 37) text else on_directive (c ∷ text)

-- by the byte after a backslash, and what both give
abbrev pub on_escape : ℕ → List ℕ → Option ℕ → Reading Apache
on_escape c text None = found (92 ∷ []) (Byte 92) (c ∷ text)
on_escape c text (Some b) = found (92 ∷ c ∷ []) (Byte b) text

-- by what follows a backslash
abbrev pub on_backslash : List ℕ → Reading Apache
on_backslash [] = found (92 ∷ []) (Byte 92) []
on_backslash (c ∷ text) = if c == 110 then Failed LineBreak else on_escape c text (escaped c)

-- what is found at the start of a text
abbrev pub reading : Apache → List ℕ → Reading Apache
reading apache [] = Failed EmptyFormat
reading apache (b ∷ text) =
    if b == 10 then Failed LineBreak else
    if b == 92 then on_backslash text else
    if b == 37 then on_percent text else
    found (b ∷ []) (Byte b) text

-- The item stands before these bytes.
abbrev pub item_is : Apache → Item Apache → List ℕ → Type 0
item_is apache item after = IsItem item.bytes item.given after

-- No item stands at the start of these bytes, for this cause.
abbrev pub fault_is : Apache → List ℕ → Cause → Type 0
fault_is apache text cause = HasFault text cause

-- What reading an item answers.
abbrev pub Gives : Reading Apache → List ℕ → Result Taken ItemFault → Type 0
Gives read rest result = GivesItem read (record {}) rest result

-- What reading the letter answers: what follows the letter, and the slot.
abbrev pub GivesLetter : List ℕ → Bool → Option (List ℕ) → List ℕ → Result Taken ItemFault → Type 0
GivesLetter text has_flags name tail (Ok taken) = (letter : ℕ) × (after : List ℕ) × (row : Row) × (tail ≡ letter ∷ after) × (row_of letter ≡ Some row) × (takes row.names name ≡ true) × (taken.len + length after ≡ 1 + length text) × (taken.given ≡ Slot (row_slot (37 ∷ take (length text - length after) text) row (if has_flags then Dash else row.absent)))
GivesLetter text has_flags name tail (Err (fault.Fault cause)) = letter_cause name tail ≡ Some cause
GivesLetter text has_flags name tail (Err fault.OutOfMemory) = Unit {0}
