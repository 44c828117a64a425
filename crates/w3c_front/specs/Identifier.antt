-- An identifier: what it stands for, or what is wrong with it.
use Rattle.std.specs.Prelude.{ℕ, ◌-◌, ◌==◌, ◌&&◌, ◌||◌, not, nat_le, nat_eq, Bool, false, List, [], ◌∷◌, length, take, drop, Option, Some, None, Result, Ok, Err, codes, if◌then◌else◌}
use Rattle.std.specs.List.{list_all, starts_with, ends_with}
use Rattle.lf_spelling.specs.Runs.{run, past}
use Rattle.lf_spelling.specs.Enclosed.{is_not}
use Rattle.lf_format.specs.declared.slot.Absent.TheVariants.{Dash}
use Rattle.lf_format.specs.declared.slot.Slot.{Slot}
use Rattle.lf_spelling.specs.declared.fault.Cause.{Cause}
use Rattle.lf_spelling.specs.declared.fault.Cause.TheVariants.{Unclosed, UnknownName, BadName}
use Rattle.w3c_front.specs.declared.table.Language.{Language}
use Rattle.w3c_front.specs.declared.table.Language.TheVariants.{Draft, Iis}
use Rattle.w3c_front.specs.declared.table.Sort.{Sort}
use Rattle.w3c_front.specs.declared.table.Sort.TheVariants.{Word}
use Rattle.w3c_front.specs.Table.{prefixes, is_listed, sort_in, draft_fields, prefixed_fields, iis_fields, header_sort, kind_of, code_of, is_quoted}

-- all but the first byte, if there is one
abbrev pub past_first : List ℕ → Option (List ℕ)
past_first [] = None
past_first (b ∷ text) = Some text

-- what follows a prefix and the mark, where they begin the identifier
abbrev pub past_prefix : Language → ℕ → List ℕ → Option (List ℕ)
past_prefix language mark name = if is_listed (prefixes language) (run (is_not mark) name) then past_first (past (is_not mark) name) else None

-- letters, digits, `-` and `_`
abbrev pub is_own_byte : ℕ → Bool
is_own_byte b = (nat_le 65 b && nat_le b 90) || (nat_le 97 b && nat_le b 122) || (nat_le 48 b && nat_le b 57) || (b == 45) || (b == 95)

-- whether any byte is there
abbrev pub is_some_byte : List ℕ → Bool
is_some_byte text = not (length text == 0)

-- `x-` and a name of one's own
abbrev pub is_own : List ℕ → Bool
is_own name = starts_with nat_eq name (codes "x-") && (is_some_byte (drop 2 name) && list_all is_own_byte (drop 2 name))

-- the sort of what follows a prefix and a dash
abbrev pub after_dash : Option (List ℕ) → Option Sort
after_dash None = None
after_dash (Some name) = sort_in prefixed_fields name

-- the sort of a prefix, a dash and a name
abbrev pub prefixed_sort : List ℕ → Option Sort
prefixed_sort name = after_dash (past_prefix Draft 45 name)

-- the first sort, or else the second
abbrev pub or_else : Option Sort → Option Sort → Option Sort
or_else None other = other
or_else (Some sort) other = Some sort

-- the sort of an identifier of the draft
abbrev pub draft_sort : List ℕ → Option Sort
draft_sort name = if is_own name then Some Word else or_else (sort_in draft_fields name) (prefixed_sort name)

-- the sort of an identifier without a header's name
abbrev pub sort_of : Language → List ℕ → Option Sort
sort_of Draft name = draft_sort name
sort_of Iis name = sort_in iis_fields name

-- neither parenthesis
abbrev pub is_inside : ℕ → Bool
is_inside b = not (b == 40) && not (b == 41)

-- a header's name has some bytes, and no parenthesis
abbrev pub is_header_name : List ℕ → Bool
is_header_name name = is_some_byte name && list_all is_inside name

-- what follows a prefix and `(`: a header's name and `)`
abbrev pub header_of : Language → List ℕ → Result Sort Cause
header_of language inside =
    if not (ends_with nat_eq inside (codes ")")) then Err Unclosed else
    if not (is_header_name (take (length inside - 1) inside)) then Err BadName else
    Ok (header_sort language)

-- the sort, or an unknown name
abbrev pub known : Option Sort → Result Sort Cause
known None = Err UnknownName
known (Some sort) = Ok sort

-- by what follows a prefix and `(`, or by the whole identifier
abbrev pub field_by : Language → List ℕ → Option (List ℕ) → Result Sort Cause
field_by language name None = known (sort_of language name)
field_by language name (Some inside) = header_of language inside

-- what an identifier stands for, or what is wrong with it
abbrev pub field_of : Language → List ℕ → Result Sort Cause
field_of language name = field_by language name (past_prefix language 40 name)

-- the slot of an identifier: it is named by it, and prints a dash for a missing value
abbrev pub slot_of : List ℕ → Sort → Slot
slot_of name sort = record { name = name; kind = kind_of sort; code = code_of sort; absent = Dash; present = false; quoted = is_quoted sort }
