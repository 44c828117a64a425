-- What each front keeps.
use Rattle.std.specs.Prelude.{◌≡◌, ℕ, ◌≤◌, true, List, ◌++◌, length, take, drop, Result, Ok, Err}
use Rattle.lf_spelling.specs.Items.{Item, Reading, Found, Failed}
use Rattle.lf_format.specs.Keeps.{is_no_feed, KeepsSlot}
use Rattle.lf_spelling.specs.declared.fault.Cause.{Cause}
use Rattle.lf_spelling.specs.declared.fault.ItemFault.{ItemFault}
use Rattle.lf_spelling.specs.declared.fault.ItemFault.TheVariants as fault
use Rattle.lf_spelling.specs.declared.item_reader.Given.{Given}
use Rattle.lf_spelling.specs.declared.item_reader.Given.TheVariants.{Nothing, Byte, Slot, Spaced, Braced}
use Rattle.lf_spelling.specs.declared.item_reader.Taken.{Taken}

-- What an item may give: no line feed, and slots that keep what a format's slots keep.
abbrev pub KeepsGiven : Given → Type 0
KeepsGiven Nothing = Unit {0}
KeepsGiven (Byte b) = is_no_feed b ≡ true
KeepsGiven (Slot slot) = KeepsSlot slot
KeepsGiven (Spaced slot) = KeepsSlot slot
KeepsGiven (Braced slot) = KeepsSlot slot

-- how many literal bytes are given
abbrev pub given_bytes : Given → ℕ
given_bytes Nothing = 0
given_bytes (Byte b) = 1
given_bytes (Slot slot) = 0
given_bytes (Spaced slot) = 1
given_bytes (Braced slot) = 2

-- What the bytes of an item and what they give keep: what they give is good, and they are at least as many as the literal bytes given.
pub record KeepsItem (bytes : List ℕ) (given : Given) : Type 0 where
  pub good : KeepsGiven given
  pub short : given_bytes given ≤ length bytes

-- A text that isn't empty has an item at its start, or none for a cause, as the reading says. No other item stands there, and no other cause holds.
pub record ReadsItems {State : Type 0} (reading : State → List ℕ → Reading State) (item_is : State → Item State → List ℕ → Type 0) (fault_is : State → List ℕ → Cause → Type 0) : Type 0 where
  pub found : (state : State) (text : List ℕ) (item : Item State) (after : List ℕ) → 1 ≤ length text → reading state text ≡ Found item after → (text ≡ item.bytes ++ after) × item_is state item after
  pub failed : (state : State) (text : List ℕ) (cause : Cause) → 1 ≤ length text → reading state text ≡ Failed cause → fault_is state text cause
  pub item_found : (state : State) (item : Item State) (after : List ℕ) → item_is state item after → (1 ≤ length item.bytes) × (reading state (item.bytes ++ after) ≡ Found item after)
  pub keeps : (state : State) (item : Item State) (after : List ℕ) → item_is state item after → KeepsItem item.bytes item.given
  pub fault_found : (state : State) (text : List ℕ) (cause : Cause) → fault_is state text cause → (1 ≤ length text) × (reading state text ≡ Failed cause)

-- What reading an item answers, with the state that it leaves.
abbrev pub GivesItem : {State : Type 0} → Reading State → State → List ℕ → Result Taken ItemFault → Type 0
GivesItem reading state rest (Ok taken) = (taken.len ≤ length rest) × (reading ≡ Found (record { bytes = take taken.len rest; given = taken.given; state = state }) (drop taken.len rest))
GivesItem reading state rest (Err (fault.Fault cause)) = reading ≡ Failed cause
GivesItem reading state rest (Err fault.OutOfMemory) = Unit {0}
