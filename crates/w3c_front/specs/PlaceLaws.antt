-- A field gives its slot, alone or behind a space.
use Rattle.lf_format.specs.declared.slot.Slot.{Slot}
use Rattle.lf_spelling.specs.declared.item_reader.Given.{Given}
use Rattle.lf_spelling.specs.declared.item_reader.Given.TheVariants as given
use Rattle.w3c_front.specs.declared.front.Place.{Place}
use Rattle.w3c_front.specs.declared.front.Place.TheVariants.{Start, First, Later}
use Rattle.w3c_front.specs.Items.{given_of}

-- What holds of the slot alone and behind a space holds of what a field gives.
pub given_at : (P : Given → Type 0) (place : Place) (slot : Slot) → P (given.Slot slot) → P (given.Spaced slot) → P (given_of place slot)
given_at P Start slot alone spaced = alone
given_at P First slot alone spaced = alone
given_at P Later slot alone spaced = spaced
