-- The slot of each variable keeps what a format's slots keep.
use Rattle.std.proofs.Common.{◌≡◌, ℕ, true, false, List, ◌∷◌, refl}
use Rattle.lf_format.specs.declared.slot.Slot.{Slot}
use Rattle.lf_format.specs.Keeps.{KeepsSlot}
use Rattle.lf_format.specs.KeptSlots as kept
use Rattle.lf_format.specs.KeptSlots.{all_bytes}
use Rattle.lf_format.specs.KeptSlotLaws.{slot_keeps}
use Rattle.nginx_front.specs.declared.table.Escape.{Escape}
use Rattle.nginx_front.specs.declared.table.Escape.TheVariants.{Default, Json, Off}
use Rattle.nginx_front.specs.declared.table.Sort.{Sort}
use Rattle.nginx_front.specs.declared.table.Sort.TheVariants.{Visible, VisibleOrEmpty, PortNumber, Status, Count, Seconds, LocalTime, IsoTime, Pipe, Free}
use Rattle.nginx_front.specs.Table.{sort_of, kind_of, code_of, absence_of}
use Rattle.nginx_front.specs.Variables.{slot_of}

-- a slot that is like a variable's under a name
abbrev sort_slot : List ℕ → Escape → Sort → Slot
sort_slot name escape sort = record { name = name; kind = kind_of escape sort; code = code_of escape sort; absent = absence_of escape sort; present = false; quoted = false }

abbrev Kept : List ℕ → Escape → Sort → Type 0
Kept name escape sort = kept.keeps_slot (sort_slot name escape sort) ≡ true

sort_keeps : (name : List ℕ) (escape : Escape) (sort : Sort) → Kept name escape sort
unfolding all_bytes
sort_keeps name Default sort = elim sort as (λ s. Kept name Default s) [ Visible ↦ refl | VisibleOrEmpty ↦ refl | PortNumber ↦ refl | Status ↦ refl | Count ↦ refl | Seconds ↦ refl | LocalTime ↦ refl | IsoTime ↦ refl | Pipe ↦ refl | Free ↦ refl ]
sort_keeps name Json sort = elim sort as (λ s. Kept name Json s) [ Visible ↦ refl | VisibleOrEmpty ↦ refl | PortNumber ↦ refl | Status ↦ refl | Count ↦ refl | Seconds ↦ refl | LocalTime ↦ refl | IsoTime ↦ refl | Pipe ↦ refl | Free ↦ refl ]
sort_keeps name Off sort = elim sort as (λ s. Kept name Off s) [ Visible ↦ refl | VisibleOrEmpty ↦ refl | PortNumber ↦ refl | Status ↦ refl | Count ↦ refl | Seconds ↦ refl | LocalTime ↦ refl | IsoTime ↦ refl | Pipe ↦ refl | Free ↦ refl ]

pub keeps_slot : (escape : Escape) (name : List ℕ) → KeepsSlot (slot_of escape name)
keeps_slot escape name = slot_keeps (slot_of escape name) (sort_keeps (36 ∷ name) escape (sort_of name))
