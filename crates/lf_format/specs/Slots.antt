-- What a slot holds, and the text that it prints for it.
use Rattle.std.specs.Prelude.{◌≡◌, ◌≢◌, ℕ, List, [], ◌∷◌, ◌++◌, Bool, true, false, cond, not}
use Rattle.lf_core.specs.declared.values.Value.{Value}
use Rattle.lf_core.specs.declared.values.Value.TheVariants.{Missing}
use Rattle.lf_escape.specs.Codes.{coded}
use Rattle.lf_format.specs.Kinds.{HoldsKind, plain_text}
use Rattle.lf_escape.specs.Codings.{coding_word}
use Rattle.lf_format.specs.declared.kind.Kind.{Kind}
use Rattle.lf_format.specs.declared.slot.Slot.{Slot}
use Rattle.lf_format.specs.declared.slot.Absent.{Absent}
use Rattle.lf_format.specs.declared.slot.Absent.TheVariants.{No, Dash, DashTwo, Blank}

-- whether the slot holds `Missing`
abbrev pub holds_missing : Absent → Bool → Bool
holds_missing No present = false
holds_missing Dash present = not present
holds_missing DashTwo present = not present
holds_missing Blank present = not present

-- A value with this plain text isn't taken for absence: `-` is under `Dash` without quotes, and the empty text under `Blank`.
-- Under `DashTwo` none is: absence and a lone dash are two values.
abbrev pub IsNotAbsence : Absent → Bool → List ℕ → Type 0
IsNotAbsence No quoted plain = Unit {0}
IsNotAbsence Dash quoted plain = cond quoted (Unit {0}) (plain ≢ 45 ∷ [])
IsNotAbsence DashTwo quoted plain = Unit {0}
IsNotAbsence Blank quoted plain = plain ≢ []

-- The domain holds some value that isn't taken for absence.
abbrev pub HasPresent : Kind → Absent → Bool → Type 0
HasPresent k absent quoted = (v : Value) × HoldsKind k v × IsNotAbsence absent quoted (plain_text k v)

-- The slot's domain holds the value, and the value isn't taken for absence.
abbrev pub HoldsPresent : Slot → Value → Type 0
HoldsPresent slot v = HoldsKind slot.kind v × IsNotAbsence slot.absent slot.quoted (plain_text slot.kind v)

-- The slot holds the value.
abbrev pub Holds : Slot → Value → Type 0
Holds slot Missing = holds_missing slot.absent slot.present ≡ true
Holds slot v = HoldsPresent slot v

-- the words of the plain text's letters under the slot's code, joined
abbrev pub coded_text : Slot → Value → List ℕ
coded_text slot v = coded (coding_word slot.code) (plain_text slot.kind v)

abbrev pub in_quotes : Bool → List ℕ → List ℕ
in_quotes quoted text = cond quoted (34 ∷ (text ++ 34 ∷ [])) text

-- what stands for absence
abbrev pub missing_text : Absent → Bool → List ℕ
missing_text No quoted = []
missing_text Dash quoted = 45 ∷ []
missing_text DashTwo quoted = 45 ∷ []
missing_text Blank quoted = in_quotes quoted []

-- what the slot prints for a value that it holds
abbrev pub slot_text : Slot → Value → List ℕ
slot_text slot Missing = missing_text slot.absent slot.quoted
slot_text slot v = in_quotes slot.quoted (coded_text slot v)
