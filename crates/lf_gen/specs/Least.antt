-- The least value of a slot.
use Rattle.std.specs.Prelude.{◌≡◌, ◌⊎◌}
use Rattle.lf_core.specs.declared.values.Value.{Value}
use Rattle.lf_format.specs.Slots.{Holds, slot_text}
use Rattle.lf_format.specs.declared.slot.Slot.{Slot}
use Rattle.lf_machine.specs.RecordOrder.{IsValueLess}
use Rattle.lf_product.specs.Walk.{LineLe}

-- A held value whose slot text is the least by the order of lines, and of those with this text the least.
pub record IsLeastValue (slot : Slot) (v : Value) : Type 0 where
  pub held : Holds slot v
  pub text : (other : Value) → Holds slot other → LineLe (slot_text slot v) (slot_text slot other)
  pub ties : (other : Value) → Holds slot other → slot_text slot other ≡ slot_text slot v → (v ≡ other) ⊎ IsValueLess slot v other
