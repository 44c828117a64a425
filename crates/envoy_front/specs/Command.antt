-- A command: as it is spelled, and as it is taken apart from the left.
use Rattle.std.specs.Prelude.{◌≡◌, ℕ, ◌==◌, ◌&&◌, ◌||◌, not, nat_le, Bool, true, false, List, [], ◌∷◌, ◌++◌, Option, Some, None, IfSome, if◌then◌else◌}
use Rattle.std.specs.List.{list_all}
use Rattle.lf_escape.specs.declared.coding.Coding.TheVariants.{Raw}
use Rattle.lf_format.specs.declared.slot.Slot.{Slot}
use Rattle.lf_spelling.specs.declared.fault.Cause.{Cause}
use Rattle.lf_spelling.specs.declared.fault.Cause.TheVariants.{Unclosed, UnknownName, BadName, BadLength}
use Rattle.lf_spelling.specs.Runs.{run, past}
use Rattle.envoy_front.specs.declared.table.Sort.{Sort}
use Rattle.lf_spelling.specs.Texts.{is_digit, begins_with}
use Rattle.lf_spelling.specs.Enclosed.{HoldsNo, enclosed, is_unclosed, part_of, after_part}
use Rattle.envoy_front.specs.Table.{sort_of, takes, takes_length, kind_of, absence}

-- an upper-case letter, a digit or `_`
abbrev pub is_upper : ℕ → Bool
is_upper b = (nat_le 65 b && nat_le b 90) || is_digit b || (b == 95)

-- The parts of a command, in the order in which they are spelled.
pub record Command : Type 0 where
  pub name : List ℕ
  pub argument : Option (List ℕ)
  pub length : Option (List ℕ)

-- a length after a colon, or none
abbrev pub counted : Option (List ℕ) → List ℕ
counted None = []
counted (Some digits) = 58 ∷ digits

-- how a command is spelled: its parts between two percent signs
abbrev pub spelling : Command → List ℕ
spelling c = 37 ∷ (c.name ++ (enclosed 40 41 c.argument ++ (counted c.length ++ 37 ∷ [])))

-- The name is one of the table, and takes the argument and the length.
pub record IsCommand (c : Command) (sort : Sort) : Type 0 where
  pub named : list_all is_upper c.name ≡ true
  pub sort_is : sort_of c.name ≡ Some sort
  pub closed : HoldsNo 41 c.argument
  pub taken : takes sort c.argument ≡ true
  pub digits : IfSome c.length (λ digits. list_all is_digit digits ≡ true)
  pub sized : takes_length sort c.length ≡ true

-- The slot's name is the command as spelled.
abbrev pub slot_of : Command → Sort → Slot
slot_of c sort = record { name = spelling c; kind = kind_of sort c.argument c.length; code = Raw; absent = absence sort; present = false; quoted = false }

-- ---- taken apart

-- the longest run of upper-case letters, digits and `_`
abbrev pub name_of : List ℕ → List ℕ
name_of text = run is_upper text

-- what follows the name
abbrev pub after_name : List ℕ → List ℕ
after_name text = past is_upper text

-- what stands between `(` and the first `)`
abbrev pub argument_of : List ℕ → Option (List ℕ)
argument_of text = part_of 40 41 text

-- what follows the argument and its `)`
abbrev pub after_argument : List ℕ → List ℕ
after_argument text = after_part 40 41 text

-- the longest run of digits after a `:`
abbrev pub length_of : List ℕ → Option (List ℕ)
length_of [] = None
length_of (b ∷ text) = if b == 58 then Some (run is_digit text) else None

-- what follows the length
abbrev pub after_length : List ℕ → List ℕ
after_length [] = []
after_length (b ∷ text) = if b == 58 then past is_digit text else b ∷ text

-- the first that is wrong with what follows the name
abbrev pub tail_cause : Sort → List ℕ → Option Cause
tail_cause sort tail =
    let rest = after_argument tail in
    if is_unclosed 40 41 tail then Some Unclosed else
    if not (takes sort (argument_of tail)) then Some BadName else
    if not (takes_length sort (length_of rest)) then Some BadLength else
    if not (begins_with 37 (after_length rest)) then Some Unclosed else
    None

-- the first that is wrong, by the sort of the name
abbrev pub sort_cause : Option Sort → List ℕ → Option Cause
sort_cause None tail = Some UnknownName
sort_cause (Some sort) tail = tail_cause sort tail

-- the first fault of a command, by what follows its percent sign
abbrev pub cause_of : List ℕ → Option Cause
cause_of text = sort_cause (sort_of (name_of text)) (after_name text)

-- What follows the name is the rest of a command, with these parts, and what follows the command.
pub record IsTail (sort : Sort) (tail : List ℕ) (argument length : Option (List ℕ)) (after : List ℕ) : Type 0 where
  pub good : tail_cause sort tail ≡ None
  pub argument_is : argument_of tail ≡ argument
  pub length_is : length_of (after_argument tail) ≡ length
  pub after_is : after_length (after_argument tail) ≡ 37 ∷ after
