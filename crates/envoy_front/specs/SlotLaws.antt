-- The slot of each command keeps what a format's slots keep.
use Rattle.std.proofs.Common.{◌≡◌, ℕ, Bool, true, false, ◌&&◌, cond, List, Option, Some, None, refl, ap}
use Rattle.lf_core.specs.declared.class.Class.{Class}
use Rattle.lf_core.specs.declared.class.TheConstants.Class as classes
use Rattle.lf_escape.specs.declared.coding.Coding.TheVariants.{Raw}
use Rattle.lf_format.specs.Keeps.{KeepsSlot}
use Rattle.lf_format.specs.KeptSlots.{all_bytes, takes_class, takes_kind, keeps_slot as keeps}
use Rattle.lf_format.specs.KeptSlotLaws.{slot_keeps}
use Rattle.lf_spelling.specs.Texts.{begins_with}
use Rattle.envoy_front.specs.declared.table.Sort.{Sort}
use Rattle.envoy_front.specs.declared.table.Sort.TheVariants.{Header, Data, Visible, Reason, Status, Count, Start}
use Rattle.envoy_front.specs.Table.{last_name, letters_of, sized}
use Rattle.envoy_front.specs.Command.{Command, slot_of}

letters_taken : (argument : Option (List ℕ)) → takes_class Raw (letters_of argument) ≡ true
unfolding all_bytes
letters_taken None = refl
letters_taken (Some argument) = elim (begins_with 58 (last_name argument)) as (λ v. takes_class Raw (cond v classes.VISIBLE classes.HEADER) ≡ true) [ true ↦ refl | false ↦ refl ]

sized_taken : (class : Class) (counts : Option (List ℕ)) → takes_class Raw class ≡ true → (takes_kind Raw (sized class counts) && true) ≡ true
sized_taken class None h = ap (λ v. v && true) h
sized_taken class (Some digits) h = ap (λ v. v && true) h

sort_passes : (c : Command) (sort : Sort) → keeps (slot_of c sort) ≡ true
unfolding all_bytes
sort_passes c Header = sized_taken (letters_of c.argument) c.length (letters_taken c.argument)
sort_passes c Data = sized_taken classes.HEADER c.length refl
sort_passes c Visible = refl
sort_passes c Reason = refl
sort_passes c Status = refl
sort_passes c Count = refl
sort_passes c Start = refl

pub keeps_slot : (c : Command) (sort : Sort) → KeepsSlot (slot_of c sort)
keeps_slot c sort = slot_keeps (slot_of c sort) (sort_passes c sort)
