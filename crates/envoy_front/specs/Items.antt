-- What stands in a text, and what is wrong where nothing does.
use Rattle.std.specs.Prelude.{◌≡◌, ℕ, ◌==◌, ◌&&◌, not, Bool, true, false, List, [], ◌∷◌, Some}
use Rattle.lf_spelling.specs.declared.fault.Cause.{Cause}
use Rattle.lf_spelling.specs.declared.fault.Cause.TheVariants.{LineBreak}
use Rattle.lf_spelling.specs.declared.item_reader.Given.{Given}
use Rattle.lf_spelling.specs.declared.item_reader.Given.TheVariants.{Byte, Slot}
use Rattle.envoy_front.specs.declared.table.Sort.{Sort}
use Rattle.lf_spelling.specs.Texts.{begins_with}
use Rattle.envoy_front.specs.Command.{Command, IsCommand, spelling, slot_of, cause_of}

-- whether a byte stands for itself
abbrev pub is_plain : ℕ → Bool
is_plain b = not (b == 10) && not (b == 37)

-- The bytes are an item, and it gives this.
pub data IsItem (bytes : List ℕ) (given : Given) : Type 0 where
  plain : (b : ℕ) → is_plain b ≡ true → bytes ≡ b ∷ [] → given ≡ Byte b → IsItem bytes given
  percent : bytes ≡ 37 ∷ 37 ∷ [] → given ≡ Byte 37 → IsItem bytes given
  command : (c : Command) (sort : Sort) → IsCommand c sort → bytes ≡ spelling c → given ≡ Slot (slot_of c sort) → IsItem bytes given

-- No item begins the text, for this cause.
pub data HasFault (text : List ℕ) (cause : Cause) : Type 0 where
  line_feed : (after : List ℕ) → text ≡ 10 ∷ after → cause ≡ LineBreak → HasFault text cause
  bad_command : (after : List ℕ) → text ≡ 37 ∷ after → begins_with 37 after ≡ false → cause_of after ≡ Some cause → HasFault text cause
