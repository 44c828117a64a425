-- What stands in a text, and what is wrong where nothing does.
use Rattle.std.specs.Prelude.{◌≡◌, ℕ, ◌==◌, ◌&&◌, not, Bool, true, false, List, [], ◌∷◌, ◌++◌}
use Rattle.std.specs.List.{list_all}
use Rattle.lf_spelling.specs.declared.fault.Cause.{Cause}
use Rattle.lf_spelling.specs.declared.fault.Cause.TheVariants.{LineBreak, Unclosed, BadName}
use Rattle.lf_spelling.specs.declared.item_reader.Given.{Given}
use Rattle.lf_spelling.specs.declared.item_reader.Given.TheVariants.{Byte, Slot}
use Rattle.nginx_front.specs.declared.table.Escape.{Escape}
use Rattle.nginx_front.specs.Variables.{is_word, is_name, is_inside, spelling, braced_spelling, slot_of}

-- whether a byte stands for itself
abbrev pub is_plain : ℕ → Bool
is_plain b = not (b == 10) && not (b == 36)

-- whether the first byte passes the test
abbrev pub begins_so : (ℕ → Bool) → List ℕ → Bool
begins_so p [] = false
begins_so p (b ∷ text) = p b

-- The bytes are an item before these ones, and it gives this. A name without braces is the longest run of its bytes.
pub data IsItem (escape : Escape) (bytes : List ℕ) (given : Given) (after : List ℕ) : Type 0 where
  plain : (b : ℕ) → is_plain b ≡ true → bytes ≡ b ∷ [] → given ≡ Byte b → IsItem escape bytes given after
  bare : (name : List ℕ) → is_name name ≡ true → begins_so is_word after ≡ false → bytes ≡ spelling name → given ≡ Slot (slot_of escape name) → IsItem escape bytes given after
  braced : (name : List ℕ) → is_name name ≡ true → bytes ≡ braced_spelling name → given ≡ Slot (slot_of escape name) → IsItem escape bytes given after

-- No item begins the text, for this cause.
pub data HasFault (text : List ℕ) (cause : Cause) : Type 0 where
  line_feed : (after : List ℕ) → text ≡ 10 ∷ after → cause ≡ LineBreak → HasFault text cause
  unclosed : (after : List ℕ) → text ≡ 36 ∷ 123 ∷ after → list_all is_inside after ≡ true → cause ≡ Unclosed → HasFault text cause
  bad_braced : (name after : List ℕ) → text ≡ braced_spelling name ++ after → list_all is_inside name ≡ true → is_name name ≡ false → cause ≡ BadName → HasFault text cause
  no_name : (after : List ℕ) → text ≡ 36 ∷ after → begins_so is_word after ≡ false → begins_so (λ b. b == 123) after ≡ false → cause ≡ BadName → HasFault text cause
