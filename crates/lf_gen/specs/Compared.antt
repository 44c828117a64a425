-- How the values that a slot holds are compared: by what is printed, then by order text, and `Missing` first.
use Rattle.std.specs.Prelude.{◌≡◌, ℕ, List, length, Option, None, Some, false, Contains}
use Rattle.std.specs.declared.cmp.Ordering.{Ordering}
use Rattle.std.specs.Ordering.{ordering_then, nat_cmp, is_gt}
use Rattle.std.specs.Cmp.Lexicographic.{slice_cmp}
use Rattle.lf_core.specs.declared.values.Value.{Value}
use Rattle.lf_core.specs.declared.values.Value.TheVariants.{Missing}
use Rattle.lf_format.specs.Slots.{Holds, slot_text}
use Rattle.lf_format.specs.declared.slot.Slot.{Slot}
use Rattle.lf_machine.specs.RecordOrder.{order_text}

-- lines: the shorter first, and of equal length the lesser by bytes
abbrev pub line_cmp : List ℕ → List ℕ → Ordering
line_cmp one other = ordering_then (nat_cmp (length one) (length other)) (slice_cmp nat_cmp one other)

-- 0 for `Missing`, and 1 for every other value
abbrev pub rank : Value → ℕ
rank Missing = 0
rank v = 1

-- what values are compared by
pub record Key : Type 0 where
  pub line : List ℕ
  pub order : List ℕ
  pub rank : ℕ

abbrev pub key_of : Slot → Value → Key
key_of slot v = record { line = slot_text slot v; order = order_text slot v; rank = rank v }

abbrev pub key_cmp : Key → Key → Ordering
key_cmp one other =
    ordering_then (line_cmp one.line other.line)
    (ordering_then (slice_cmp nat_cmp one.order other.order) (nat_cmp one.rank other.rank))

-- The first value is less, or it is the same.
abbrev pub IsNotAbove : Slot → Value → Value → Type 0
IsNotAbove slot v other = is_gt (key_cmp (key_of slot v) (key_of slot other)) ≡ false

-- The least of the values that the slot holds, and none where it holds none of them.
abbrev pub IsLeastOf : Slot → List Value → Option Value → Type 0
IsLeastOf slot values None = (v : Value) → Contains values v → Holds slot v → ⊥
IsLeastOf slot values (Some least) =
    Holds slot least × ((v : Value) → Contains values v → Holds slot v → IsNotAbove slot least v)

-- For each value that the slot holds one of these is held that isn't above it.
abbrev pub AreEnough : Slot → List Value → Type 0
AreEnough slot values =
    (v : Value) → Holds slot v → (other : Value) × Contains values other × Holds slot other × IsNotAbove slot other v
