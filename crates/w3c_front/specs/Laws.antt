-- At the start of a text stands one item, or none for one cause, and what an item gives is good.
use Rattle.std.proofs.Common.{ℕ, ◌≤◌, List, length, sym, subst, arith}
use Rattle.lf_spelling.specs.Items.{Item}
use Rattle.lf_spelling.specs.ItemReaders.{ReadsItems, KeepsItem, KeepsGiven, given_bytes}
use Rattle.w3c_front.specs.declared.front.Fields.{Fields}
use Rattle.w3c_front.specs.declared.front.Place.{Place}
use Rattle.w3c_front.specs.declared.front.Place.TheVariants.{Start, First, Later}
use Rattle.w3c_front.specs.declared.table.Sort.{Sort}
use Rattle.w3c_front.specs.Identifier.{slot_of}
use Rattle.w3c_front.specs.Items.{given_of, IsItem, blanks, heads, field}
use Rattle.w3c_front.specs.Reading.{reading, item_is, fault_is}
use Rattle.w3c_front.specs.SlotLaws.{keeps_slot}
use Rattle.w3c_front.specs.FrontLaws.{Fine, all_fine, Again, again, fails_again}

good_given : (place : Place) (name : List ℕ) (sort : Sort) → KeepsGiven (given_of place (slot_of name sort))
good_given Start name sort = keeps_slot name sort
good_given First name sort = keeps_slot name sort
good_given Later name sort = keeps_slot name sort

short_given : (place : Place) (name : List ℕ) (sort : Sort) → 1 ≤ length name → given_bytes (given_of place (slot_of name sort)) ≤ length name
short_given Start name sort some = omega arith
short_given First name sort some = omega arith
short_given Later name sort some = some

-- the item keeps what items keep
abbrev kept : Item Fields → Type 0
kept item = KeepsItem item.bytes item.given

item_keeps : (state : Fields) (item : Item Fields) (after : List ℕ) → IsItem state item after → kept item
item_keeps state item after (blanks bytes h e) = subst kept (sym e) (record { good = tt; short = omega arith })
item_keeps state item after (heads is e) = subst kept (sym e) (record { good = tt; short = omega arith })
item_keeps state item after (field name sort h head is e) = subst kept (sym e) (record { good = good_given state.place name sort; short = short_given state.place name sort h.some })

pub laws : ReadsItems reading item_is fault_is
unfolding Fine Again
laws = record {
  found = λ state text item after some read. subst (Fine state text) read (all_fine state text some);
  failed = λ state text cause some read. subst (Fine state text) read (all_fine state text some);
  item_found = again;
  keeps = item_keeps;
  fault_found = fails_again;
}
