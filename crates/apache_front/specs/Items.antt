-- What stands in a text, and what is wrong where nothing does.
use Rattle.std.specs.Prelude.{◌≡◌, ℕ, ◌==◌, ◌&&◌, ◌||◌, not, Bool, true, false, List, [], ◌∷◌, Option, Some, None, is_some, if◌then◌else◌}
use Rattle.lf_spelling.specs.Texts.{begins_with}
use Rattle.lf_spelling.specs.declared.fault.Cause.{Cause}
use Rattle.lf_spelling.specs.declared.fault.Cause.TheVariants.{LineBreak}
use Rattle.lf_spelling.specs.declared.item_reader.Given.{Given}
use Rattle.lf_spelling.specs.declared.item_reader.Given.TheVariants.{Byte, Slot}
use Rattle.apache_front.specs.declared.table.Row.{Row}
use Rattle.apache_front.specs.Directive.{Directive, IsDirective, spelling, slot_of, cause_of}

-- what a backslash and this byte give
abbrev pub escaped : ℕ → Option ℕ
escaped c = if c == 34 then Some 34 else if c == 92 then Some 92 else if c == 116 then Some 9 else None

-- whether these bytes make an escape after a backslash
abbrev pub begins_escape : List ℕ → Bool
begins_escape [] = false
begins_escape (c ∷ text) = (c == 110) || is_some (escaped c)

-- whether a byte stands for itself
abbrev pub is_plain : ℕ → Bool
is_plain b = not (b == 10) && not (b == 92) && not (b == 37)

-- The bytes are an item before these ones, and it gives this.
pub data IsItem (bytes : List ℕ) (given : Given) (after : List ℕ) : Type 0 where
  plain : (b : ℕ) → is_plain b ≡ true → bytes ≡ b ∷ [] → given ≡ Byte b → IsItem bytes given after
  escape : (c b : ℕ) → escaped c ≡ Some b → bytes ≡ 92 ∷ c ∷ [] → given ≡ Byte b → IsItem bytes given after
  backslash : begins_escape after ≡ false → bytes ≡ 92 ∷ [] → given ≡ Byte 92 → IsItem bytes given after
  percent : bytes ≡ 37 ∷ 37 ∷ [] → given ≡ Byte 37 → IsItem bytes given after
  directive : (d : Directive) (row : Row) → IsDirective d row → bytes ≡ spelling d → given ≡ Slot (slot_of d row) → IsItem bytes given after

-- No item begins the text, for this cause.
pub data HasFault (text : List ℕ) (cause : Cause) : Type 0 where
  line_feed : (after : List ℕ) → text ≡ 10 ∷ after → cause ≡ LineBreak → HasFault text cause
  spelled_feed : (after : List ℕ) → text ≡ 92 ∷ 110 ∷ after → cause ≡ LineBreak → HasFault text cause
  bad_directive : (after : List ℕ) → text ≡ 37 ∷ after → begins_with 37 after ≡ false → cause_of after ≡ Some cause → HasFault text cause
