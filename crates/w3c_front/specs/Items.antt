-- What stands in a list of fields, and what is wrong where nothing does.
use Rattle.std.specs.Prelude.{◌≡◌, ℕ, ◌≤◌, ◌==◌, ◌&&◌, ◌||◌, not, nat_eq, Bool, false, List, ◌∷◌, ◌++◌, length, Ok, Err, codes}
use Rattle.std.specs.List.{starts_with}
use Rattle.lf_spelling.specs.Runs.{run}
use Rattle.lf_spelling.specs.Items.{Item}
use Rattle.lf_spelling.specs.declared.fault.Cause.{Cause}
use Rattle.lf_spelling.specs.declared.fault.Cause.TheVariants.{LineBreak}
use Rattle.lf_format.specs.declared.slot.Slot.{Slot}
use Rattle.lf_spelling.specs.declared.item_reader.Given.{Given}
use Rattle.lf_spelling.specs.declared.item_reader.Given.TheVariants as given
use Rattle.w3c_front.specs.declared.front.Fields.{Fields}
use Rattle.w3c_front.specs.declared.front.Place.{Place}
use Rattle.w3c_front.specs.declared.front.Place.TheVariants.{Start, First, Later}
use Rattle.w3c_front.specs.declared.table.Sort.{Sort}
use Rattle.w3c_front.specs.Identifier.{field_of, slot_of}

-- a space or a tab
abbrev pub is_blank : ℕ → Bool
is_blank b = (b == 32) || (b == 9)

-- any byte but a space, a tab and a line feed
abbrev pub is_inner : ℕ → Bool
is_inner b = not (is_blank b) && not (b == 10)

-- The bytes are the longest run of such bytes before the others, and not empty.
pub record IsStretch (passes : ℕ → Bool) (bytes after : List ℕ) : Type 0 where
  pub some : 1 ≤ length bytes
  pub longest : run passes (bytes ++ after) ≡ bytes

-- what may begin the text
abbrev pub heading : List ℕ
heading = codes "#Fields:"

-- whether `#Fields:` stands here, which counts at the first byte of the text alone
abbrev pub has_heading : Place → List ℕ → Bool
has_heading Start text = starts_with nat_eq text heading
has_heading First text = false
has_heading Later text = false

-- where the text goes on after spaces and tabs
abbrev pub after_blanks : Place → Place
after_blanks Start = First
after_blanks First = First
after_blanks Later = Later

-- a space stands before each field but the first
abbrev pub given_of : Place → Slot → Given
given_of Start slot = given.Slot slot
given_of First slot = given.Slot slot
given_of Later slot = given.Spaced slot

-- bytes that give no field, with the place after them
abbrev pub passed : Fields → List ℕ → Place → Item Fields
passed state bytes place = record { bytes = bytes; given = given.Nothing; state = record { language = state.language; place = place } }

-- an identifier that gives its field
abbrev pub taken : Fields → List ℕ → Sort → Item Fields
taken state name sort = record { bytes = name; given = given_of state.place (slot_of name sort); state = record { language = state.language; place = Later } }

-- The item stands before these bytes.
pub data IsItem (state : Fields) (item : Item Fields) (after : List ℕ) : Type 0 where
  blanks : (bytes : List ℕ) → IsStretch is_blank bytes after → item ≡ passed state bytes (after_blanks state.place) → IsItem state item after
  heads : state.place ≡ Start → item ≡ passed state heading First → IsItem state item after
  field : (name : List ℕ) (sort : Sort) → IsStretch is_inner name after → has_heading state.place (name ++ after) ≡ false → field_of state.language name ≡ Ok sort → item ≡ taken state name sort → IsItem state item after

-- No item begins the text, for this cause.
pub data HasFault (state : Fields) (text : List ℕ) (cause : Cause) : Type 0 where
  line_feed : (after : List ℕ) → text ≡ 10 ∷ after → cause ≡ LineBreak → HasFault state text cause
  bad_field : (name after : List ℕ) → text ≡ name ++ after → IsStretch is_inner name after → has_heading state.place text ≡ false → field_of state.language name ≡ Err cause → HasFault state text cause
