-- A directive: as it is spelled, and as it is taken apart from the left.
use Rattle.std.specs.Prelude.{◌≡◌, ℕ, ◌==◌, ◌&&◌, ◌||◌, not, Bool, true, false, List, [], ◌∷◌, ◌++◌, Option, Some, None, if◌then◌else◌}
use Rattle.lf_format.specs.declared.slot.Absent.{Absent}
use Rattle.lf_format.specs.declared.slot.Absent.TheVariants.{Dash}
use Rattle.lf_format.specs.declared.slot.Slot.{Slot}
use Rattle.lf_spelling.specs.declared.fault.Cause.{Cause}
use Rattle.lf_spelling.specs.declared.fault.Cause.TheVariants.{BadFlags, Unclosed, UnknownName, BadName}
use Rattle.apache_front.specs.declared.table.Row.{Row}
use Rattle.apache_front.specs.Table.{row_of, takes, kind_of, code_of}
use Rattle.lf_spelling.specs.Runs.{run, past}
use Rattle.lf_spelling.specs.Texts.{is_digit}
use Rattle.lf_spelling.specs.Enclosed.{HoldsNo, enclosed, is_unclosed, part_of, after_part}

-- a digit or a comma
abbrev pub is_flag : ℕ → Bool
is_flag b = is_digit b || (b == 44)

-- numbers of three digits, joined by commas
abbrev pub is_status_list : List ℕ → Bool
is_status_list (a ∷ b ∷ c ∷ []) = is_digit a && is_digit b && is_digit c
is_status_list (a ∷ b ∷ c ∷ d ∷ more) = is_digit a && is_digit b && is_digit c && (d == 44) && is_status_list more
is_status_list _ = false

-- nothing, a status list, or `!` and a status list
abbrev pub are_flags : List ℕ → Bool
are_flags [] = true
are_flags (b ∷ text) = if b == 33 then is_status_list text else is_status_list (b ∷ text)

-- `<` or `>`
abbrev pub is_angle : ℕ → Bool
is_angle b = (b == 60) || (b == 62)

-- nothing, or one of the two
abbrev pub is_side : List ℕ → Bool
is_side [] = true
is_side (b ∷ []) = is_angle b
is_side _ = false

-- The parts of a directive, in the order in which they are spelled.
pub record Directive : Type 0 where
  -- nothing, `!` and a list of statuses, or such a list
  pub flags : List ℕ
  pub side : List ℕ
  pub name : Option (List ℕ)
  pub letter : ℕ

-- a name in braces, or none
abbrev pub braced : Option (List ℕ) → List ℕ
braced name = enclosed 123 125 name

-- how a directive is spelled: a percent sign and its parts
abbrev pub spelling : Directive → List ℕ
spelling d = 37 ∷ (d.flags ++ (d.side ++ (braced d.name ++ d.letter ∷ [])))

-- The letter has this row and takes the name, and the other parts are as they should be.
pub record IsDirective (d : Directive) (row : Row) : Type 0 where
  pub flags : are_flags d.flags ≡ true
  pub side : is_side d.side ≡ true
  pub closed : HoldsNo 125 d.name
  pub row_is : row_of d.letter ≡ Some row
  pub taken : takes row.names d.name ≡ true

-- a status list makes a missing value a dash
abbrev pub absence : List ℕ → Absent → Absent
absence [] absent = absent
absence (b ∷ flags) absent = Dash

-- the slot of a row under a name
abbrev pub row_slot : List ℕ → Row → Absent → Slot
row_slot name row absent = record { name = name; kind = kind_of row.sort; code = code_of (kind_of row.sort); absent = absent; present = false; quoted = false }

-- The slot's name is the directive as spelled.
abbrev pub slot_of : Directive → Row → Slot
slot_of d row = row_slot (spelling d) row (absence d.flags row.absent)

-- ---- taken apart

-- the `!` and the longest run of digits and commas
abbrev pub flags_of : List ℕ → List ℕ
flags_of [] = []
flags_of (b ∷ text) = if b == 33 then b ∷ run is_flag text else run is_flag (b ∷ text)

-- what follows the flags
abbrev pub after_flags : List ℕ → List ℕ
after_flags [] = []
after_flags (b ∷ text) = if b == 33 then past is_flag text else past is_flag (b ∷ text)

-- the `<` or `>` at the start, or nothing
abbrev pub side_of : List ℕ → List ℕ
side_of [] = []
side_of (b ∷ text) = if is_angle b then b ∷ [] else []

-- what follows the side
abbrev pub after_side : List ℕ → List ℕ
after_side [] = []
after_side (b ∷ text) = if is_angle b then text else b ∷ text

-- what stands between `{` and the first `}`
abbrev pub name_of : List ℕ → Option (List ℕ)
name_of text = part_of 123 125 text

-- what follows the name and its `}`
abbrev pub after_name : List ℕ → List ℕ
after_name text = after_part 123 125 text

-- what is wrong with a name and the row of its letter
abbrev pub row_cause : Option (List ℕ) → Option Row → Option Cause
row_cause name None = Some UnknownName
row_cause name (Some row) = if takes row.names name then None else Some BadName

-- what is wrong with the letter and the name
abbrev pub letter_cause : Option (List ℕ) → List ℕ → Option Cause
letter_cause name [] = Some Unclosed
letter_cause name (letter ∷ after) = row_cause name (row_of letter)

-- the first fault of a directive, by what follows its percent sign
abbrev pub cause_of : List ℕ → Option Cause
cause_of text =
    let named = after_side (after_flags text) in
    if not (are_flags (flags_of text)) then Some BadFlags else
    if is_unclosed 123 125 named then Some Unclosed else
    letter_cause (name_of named) (after_name named)
