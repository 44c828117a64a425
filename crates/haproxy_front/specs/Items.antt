-- What stands in a text, and what is wrong where nothing does.
use Rattle.std.specs.Prelude.{◌≡◌, ℕ, ◌==◌, ◌&&◌, not, Bool, true, false, List, [], ◌∷◌, ◌++◌, Option, Some, None, codes, if◌then◌else◌}
use Rattle.std.specs.List.{list_all}
use Rattle.std.specs.Str.{bytes_eq}
use Rattle.lf_spelling.specs.Runs.{run, stops}
use Rattle.lf_spelling.specs.Texts.{is_nothing, begins_with}
use Rattle.lf_spelling.specs.Enclosed.{enclosed, is_unclosed, part_of, after_part}
use Rattle.lf_spelling.specs.declared.fault.Cause.{Cause}
use Rattle.lf_spelling.specs.declared.fault.Cause.TheVariants.{LineBreak, Unclosed, BadFlags, BadName, UnknownName}
use Rattle.lf_spelling.specs.declared.item_reader.Given.{Given}
use Rattle.lf_spelling.specs.declared.item_reader.Given.TheVariants.{Nothing, Byte}
use Rattle.haproxy_front.specs.declared.flags.Flags.{Flags}
use Rattle.haproxy_front.specs.declared.table.Row.{Row}
use Rattle.haproxy_front.specs.Flags.{are_flags, changed}
use Rattle.haproxy_front.specs.Names.{is_alphanumeric}
use Rattle.haproxy_front.specs.Table.{row_of}
use Rattle.haproxy_front.specs.Slots.{slot_of, given_of}

-- a byte that stands for itself
abbrev pub is_plain : ℕ → Bool
is_plain b = not (b == 10) && not (b == 32) && not (b == 37)

abbrev pub is_space : ℕ → Bool
is_space b = b == 32

-- flags in braces, or none
abbrev pub braced : Option (List ℕ) → List ℕ
braced flags = enclosed 123 125 flags

-- how a percent sign, flags and a name are spelled
abbrev pub spelling : Option (List ℕ) → List ℕ → List ℕ
spelling flags name = 37 ∷ (braced flags ++ name)

-- The flags are changes, if there are some.
abbrev pub AreChanges : Option (List ℕ) → Type 0
AreChanges None = Unit {0}
AreChanges (Some flags) = are_flags flags ≡ true

-- the flags that hold, changed by those in braces
abbrev pub changed_by : Flags → Option (List ℕ) → Flags
changed_by held None = held
changed_by held (Some flags) = changed held flags

-- Before these bytes the bytes are an item: under the flags that hold it gives this, and then the next flags hold.
pub data IsItem (held : Flags) (bytes : List ℕ) (given : Given) (next : Flags) (after : List ℕ) : Type 0 where
  plain : (b : ℕ) → is_plain b ≡ true → bytes ≡ b ∷ [] → given ≡ Byte b → next ≡ held → IsItem held bytes given next after
  spaces : (more : List ℕ) → list_all is_space more ≡ true → stops is_space after ≡ true → bytes ≡ 32 ∷ more → given ≡ Byte 32 → next ≡ held → IsItem held bytes given next after
  percent : bytes ≡ 37 ∷ 37 ∷ [] → given ≡ Byte 37 → next ≡ held → IsItem held bytes given next after
  change : (flags : Option (List ℕ)) → AreChanges flags → stops is_alphanumeric after ≡ true → bytes ≡ spelling flags (codes "o") → given ≡ Nothing → next ≡ changed_by held flags → IsItem held bytes given next after
  value : (flags : Option (List ℕ)) (name : List ℕ) (row : Row) → AreChanges flags → row_of name ≡ Some row → stops is_alphanumeric after ≡ true → bytes ≡ spelling flags name → given ≡ given_of row.sort (slot_of name row (changed_by held flags)) → next ≡ held → IsItem held bytes given next after

-- ---- what follows a percent sign, taken apart

-- what stands between `{` and the first `}`
abbrev pub flags_of : List ℕ → Option (List ℕ)
flags_of text = part_of 123 125 text

-- what follows the flags and their `}`
abbrev pub after_flags : List ℕ → List ℕ
after_flags text = after_part 123 125 text

-- whether there are no flags in braces, or they are changes
abbrev pub are_good : Option (List ℕ) → Bool
are_good None = true
are_good (Some flags) = are_flags flags

-- what is wrong with a row
abbrev pub row_cause : Option Row → Option Cause
row_cause None = Some UnknownName
row_cause (Some row) = None

-- what is wrong with a name
abbrev pub name_cause : List ℕ → Option Cause
name_cause name =
    if is_nothing name then Some BadName else
    if bytes_eq name (codes "o") then None else
    row_cause (row_of name)

-- the first fault of what follows a percent sign
abbrev pub cause_of : List ℕ → Option Cause
cause_of text =
    if is_unclosed 123 125 text then Some Unclosed else
    if not (are_good (flags_of text)) then Some BadFlags else
    name_cause (run is_alphanumeric (after_flags text))

-- No item begins the text, for this cause.
pub data HasFault (text : List ℕ) (cause : Cause) : Type 0 where
  line_feed : (after : List ℕ) → text ≡ 10 ∷ after → cause ≡ LineBreak → HasFault text cause
  bad_item : (after : List ℕ) → text ≡ 37 ∷ after → begins_with 37 after ≡ false → cause_of after ≡ Some cause → HasFault text cause
