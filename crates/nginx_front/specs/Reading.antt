-- What a reader finds at the start of a text.
use Rattle.std.specs.Prelude.{◌≡◌, ℕ, ◌==◌, true, false, Result, Ok, Err, List, [], ◌∷◌, if◌then◌else◌}
use Rattle.lf_spelling.specs.Items.{Item, Reading, Found, Failed}
use Rattle.lf_spelling.specs.Runs.{run, past}
use Rattle.lf_spelling.specs.ItemReaders.{GivesItem}
use Rattle.lf_spelling.specs.declared.fault.Cause.{Cause}
use Rattle.lf_spelling.specs.declared.fault.Cause.TheVariants.{LineBreak, EmptyFormat, Unclosed, BadName}
use Rattle.lf_spelling.specs.declared.fault.ItemFault.{ItemFault}
use Rattle.lf_spelling.specs.declared.fault.ItemFault.TheVariants as fault
use Rattle.lf_spelling.specs.declared.item_reader.Given.{Given}
use Rattle.lf_spelling.specs.declared.item_reader.Given.TheVariants.{Byte, Slot}
use Rattle.lf_spelling.specs.declared.item_reader.Taken.{Taken}
use Rattle.nginx_front.specs.declared.front.Nginx.{Nginx}
use Rattle.nginx_front.specs.declared.table.Escape.{Escape}
use Rattle.nginx_front.specs.Variables.{is_word, is_inside, is_name, spelling, braced_spelling, slot_of}
use Rattle.nginx_front.specs.Items.{IsItem, HasFault}

-- an item that leaves the state as it is
abbrev pub found : Nginx → List ℕ → Given → List ℕ → Reading Nginx
found state bytes given after = Found (record { bytes = bytes; given = given; state = state }) after

-- by the name, its bytes as spelled, and what follows
abbrev pub on_name : Nginx → List ℕ → List ℕ → List ℕ → Reading Nginx
on_name state bytes name after = if is_name name then found state bytes (Slot (slot_of state.escape name)) after else Failed BadName

-- by what follows a dollar sign, without braces
abbrev pub on_bare : Nginx → List ℕ → Reading Nginx
on_bare state text = on_name state (spelling (run is_word text)) (run is_word text) (past is_word text)

-- by what stands in braces, and what follows it
abbrev pub on_closed : Nginx → List ℕ → List ℕ → Reading Nginx
on_closed state name [] = Failed Unclosed
on_closed state name (b ∷ after) = on_name state (braced_spelling name) name after

-- by what follows an opening brace
abbrev pub on_braced : Nginx → List ℕ → Reading Nginx
on_braced state text = on_closed state (run is_inside text) (past is_inside text)

-- by what follows a dollar sign
abbrev pub on_dollar : Nginx → List ℕ → Reading Nginx
on_dollar state [] = on_bare state []
on_dollar state (c ∷ text) = if c == 123 then on_braced state text else on_bare state (c ∷ text)

-- what is found at the start of a text
abbrev pub reading : Nginx → List ℕ → Reading Nginx
reading state [] = Failed EmptyFormat
reading state (b ∷ text) =
    if b == 10 then Failed LineBreak else
    if b == 36 then on_dollar state text else
    found state (b ∷ []) (Byte b) text

-- The item stands before these bytes and leaves the state as it is.
pub record StandsAs (state : Nginx) (item : Item Nginx) (after : List ℕ) : Type 0 where
  pub is : IsItem state.escape item.bytes item.given after
  pub same : item.state ≡ state

-- The item stands before these bytes.
abbrev pub item_is : Nginx → Item Nginx → List ℕ → Type 0
item_is state item after = StandsAs state item after

-- No item stands at the start of these bytes, for this cause.
abbrev pub fault_is : Nginx → List ℕ → Cause → Type 0
fault_is state text cause = HasFault text cause

-- What reading an item answers.
abbrev pub Gives : Escape → Reading Nginx → List ℕ → Result Taken ItemFault → Type 0
Gives escape read rest result = GivesItem read (record { escape = escape }) rest result

-- What reading a name answers, which is spelled with so many bytes.
abbrev pub GivesName : Escape → List ℕ → ℕ → Result Taken ItemFault → Type 0
GivesName escape name len (Ok taken) = (is_name name ≡ true) × (taken.len ≡ len) × (taken.given ≡ Slot (slot_of escape name))
GivesName escape name len (Err (fault.Fault cause)) = (is_name name ≡ false) × (cause ≡ BadName)
GivesName escape name len (Err fault.OutOfMemory) = Unit {0}
