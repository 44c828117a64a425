-- The slot of each row keeps what a format's slots keep.
use Rattle.std.proofs.Common.{◌≡◌, ℕ, false, true, List, refl}
use Rattle.lf_format.specs.declared.slot.Absent.{Absent}
use Rattle.lf_format.specs.Keeps.{KeepsSlot}
use Rattle.lf_format.specs.KeptSlots.{all_bytes, keeps_slot, each_absence}
use Rattle.lf_format.specs.KeptSlotLaws.{slot_keeps, at_absence}
use Rattle.apache_front.specs.declared.table.Sort.{Sort}
use Rattle.apache_front.specs.declared.table.Sort.TheVariants.{Visible, Filled, Free, Query, Count, DashCount, PortNumber, Status, Time, Connection}
use Rattle.apache_front.specs.declared.table.Row.{Row}
use Rattle.apache_front.specs.Table.{kind_of, code_of}
use Rattle.apache_front.specs.Directive.{row_slot}

sort_passes : (name : List ℕ) (sort : Sort) → each_absence (λ absent. keeps_slot (record { name = name; kind = kind_of sort; code = code_of (kind_of sort); absent = absent; present = false; quoted = false })) ≡ true
unfolding all_bytes
sort_passes name Visible = refl
sort_passes name Filled = refl
sort_passes name Free = refl
sort_passes name Query = refl
sort_passes name Count = refl
sort_passes name DashCount = refl
sort_passes name PortNumber = refl
sort_passes name Status = refl
sort_passes name Time = refl
sort_passes name Connection = refl

pub row_keeps : (name : List ℕ) (row : Row) (absent : Absent) → KeepsSlot (row_slot name row absent)
row_keeps name row absent = slot_keeps (row_slot name row absent) (at_absence (λ a. keeps_slot (row_slot name row a)) (sort_passes name row.sort) absent)
