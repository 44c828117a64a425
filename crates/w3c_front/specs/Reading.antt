-- What a reader finds at the start of a text.
use Rattle.std.specs.Prelude.{◌≡◌, ℕ, ◌==◌, Result, Ok, Err, List, [], ◌∷◌, drop, if◌then◌else◌}
use Rattle.lf_spelling.specs.Items.{Item, Reading, Found, Failed}
use Rattle.lf_spelling.specs.Runs.{run, past}
use Rattle.lf_spelling.specs.declared.fault.Cause.{Cause}
use Rattle.lf_spelling.specs.declared.fault.Cause.TheVariants.{LineBreak, EmptyFormat}
use Rattle.lf_spelling.specs.declared.fault.ItemFault.{ItemFault}
use Rattle.lf_spelling.specs.declared.fault.ItemFault.TheVariants as fault
use Rattle.lf_format.specs.declared.slot.Slot.{Slot}
use Rattle.w3c_front.specs.declared.front.Fields.{Fields}
use Rattle.w3c_front.specs.declared.front.Place.TheVariants.{Start, First}
use Rattle.w3c_front.specs.declared.table.Language.{Language}
use Rattle.w3c_front.specs.declared.table.Sort.{Sort}
use Rattle.w3c_front.specs.Identifier.{field_of, slot_of}
use Rattle.w3c_front.specs.Items.{is_blank, is_inner, heading, has_heading, after_blanks, passed, taken, IsItem, HasFault}

-- the state before the first item of a text
abbrev pub start : Language → Fields
start language = record { language = language; place = Start }

-- by what the identifier stands for
abbrev pub on_field : Fields → List ℕ → List ℕ → Result Sort Cause → Reading Fields
on_field state name after (Err cause) = Failed cause
on_field state name after (Ok sort) = Found (taken state name sort) after

-- what is found at the start of a text
abbrev pub reading : Fields → List ℕ → Reading Fields
reading state [] = Failed EmptyFormat
reading state (b ∷ text) =
    if is_blank b then Found (passed state (run is_blank (b ∷ text)) (after_blanks state.place)) (past is_blank (b ∷ text)) else
    if b == 10 then Failed LineBreak else
    if has_heading state.place (b ∷ text) then Found (passed state heading First) (drop 8 (b ∷ text)) else
    on_field state (run is_inner (b ∷ text)) (past is_inner (b ∷ text)) (field_of state.language (run is_inner (b ∷ text)))

-- The item stands before these bytes.
abbrev pub item_is : Fields → Item Fields → List ℕ → Type 0
item_is state item after = IsItem state item after

-- No item stands at the start of these bytes, for this cause.
abbrev pub fault_is : Fields → List ℕ → Cause → Type 0
fault_is state text cause = HasFault state text cause

-- What making the slot of an identifier answers.
abbrev pub GivesSlot : Language → List ℕ → Result Slot ItemFault → Type 0
GivesSlot language name (Ok slot) = (sort : Sort) × (field_of language name ≡ Ok sort) × (slot ≡ slot_of name sort)
GivesSlot language name (Err (fault.Fault cause)) = field_of language name ≡ Err cause
GivesSlot language name (Err fault.OutOfMemory) = Unit {0}
