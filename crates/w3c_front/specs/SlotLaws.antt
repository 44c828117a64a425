-- The slot of each field keeps what a format's slots keep.
use Rattle.std.proofs.Common.{◌≡◌, ℕ, true, List, refl}
use Rattle.lf_format.specs.Keeps.{KeepsSlot}
use Rattle.lf_format.specs.KeptSlots.{all_bytes, keeps_slot as keeps}
use Rattle.lf_format.specs.KeptSlotLaws.{slot_keeps}
use Rattle.w3c_front.specs.declared.table.Sort.{Sort}
use Rattle.w3c_front.specs.declared.table.Sort.TheVariants.{Day, Clock, Decimal, Count, Cached, Status, Visible, Word, Comment, Bare, Spaced, PortNumber, SystemCode}
use Rattle.w3c_front.specs.Identifier.{slot_of}

sort_passes : (name : List ℕ) (sort : Sort) → keeps (slot_of name sort) ≡ true
unfolding all_bytes
sort_passes name Day = refl
sort_passes name Clock = refl
sort_passes name Decimal = refl
sort_passes name Count = refl
sort_passes name Cached = refl
sort_passes name Status = refl
sort_passes name Visible = refl
sort_passes name Word = refl
sort_passes name Comment = refl
sort_passes name Bare = refl
sort_passes name Spaced = refl
sort_passes name PortNumber = refl
sort_passes name SystemCode = refl

pub keeps_slot : (name : List ℕ) (sort : Sort) → KeepsSlot (slot_of name sort)
keeps_slot name sort = slot_keeps (slot_of name sort) (sort_passes name sort)
