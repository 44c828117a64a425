-- A slot that passes the test keeps what each slot of a format keeps.
use Rattle.std.proofs.Common.{◌≡◌, Bool, true, false, ◌&&◌, inl, inr}
use Rattle.std.proofs.lemmas.Bool.{and_parts, or_cases}
use Rattle.lf_core.specs.declared.values.Value.TheVariants.{Missing}
use Rattle.lf_format.specs.declared.slot.Absent.{Absent}
use Rattle.lf_format.specs.declared.slot.Absent.TheVariants.{No, Dash, DashTwo, Blank}
use Rattle.lf_format.specs.declared.slot.Slot.{Slot}
use Rattle.lf_format.specs.Slots.{holds_missing}
use Rattle.lf_format.specs.Keeps.{HoldsSome, KeepsSlot}
use Rattle.lf_format.specs.HeldLaws.{held-present, parts-hold}
use Rattle.lf_format.specs.KeptSlots.{takes_kind, has_present, has_value, keeps_slot, each_flag, each_absence}
use Rattle.lf_format.specs.TakenLaws.{kind_taken}
use Rattle.lf_format.specs.SomeValueLaws.{kind_present}

value_held : (slot : Slot) → has_value slot ≡ true → HoldsSome slot
value_held slot h = elim (or_cases (holds_missing slot.absent slot.present) (has_present slot.kind slot.absent slot.quoted) h) [
  | inl missing ↦ (Missing, missing)
  | inr present ↦ let some = kind_present slot.kind slot.absent slot.quoted present in (some.0, parts-hold slot some.0 (held-present slot.kind some.0 some.1) some.1 some.2)
]

pub slot_keeps : (slot : Slot) → keeps_slot slot ≡ true → KeepsSlot slot
slot_keeps slot h =
    let parts = and_parts (takes_kind slot.code slot.kind) (has_value slot) h in
    let code = kind_taken slot.code slot.kind parts.0 in
    record { fits = code.fits; takes = code.takes; some = value_held slot parts.1 }

-- What passes at each flag passes at this one.
pub at_flag : (test : Bool → Bool) → each_flag test ≡ true → (flag : Bool) → test flag ≡ true
at_flag test h true = (and_parts (test true) (test false) h).0
at_flag test h false = (and_parts (test true) (test false) h).1

pub at_absence : (test : Absent → Bool) → each_absence test ≡ true → (absent : Absent) → test absent ≡ true
at_absence test h absent =
    let three = and_parts (test No && test Dash && test DashTwo) (test Blank) h in
    let two = and_parts (test No && test Dash) (test DashTwo) three.0 in
    let one = and_parts (test No) (test Dash) two.0 in
    elim absent as (λ a. test a ≡ true) [ No ↦ one.0 | Dash ↦ one.1 | DashTwo ↦ two.1 | Blank ↦ three.1 ]
