-- At the start of a text stands one item, or none for one cause, and what an item gives is good.
use Rattle.std.proofs.Common.{ℕ, not, eqb, List, [], ◌∷◌, refl, subst, arith}
use Rattle.std.proofs.lemmas.Bool.{and_parts}
use Rattle.lf_spelling.specs.declared.item_reader.Given.{Given}
use Rattle.lf_spelling.specs.declared.item_reader.Given.TheVariants.{Byte, Slot}
use Rattle.lf_spelling.specs.ItemReaders.{ReadsItems, KeepsItem}
use Rattle.lf_spelling.specs.ItemLaws.{at_both}
use Rattle.envoy_front.specs.Command.{spelling, slot_of}
use Rattle.envoy_front.specs.Items.{IsItem, plain, percent, command}
use Rattle.envoy_front.specs.Reading.{reading, item_is, fault_is}
use Rattle.envoy_front.specs.SlotLaws.{keeps_slot}
use Rattle.envoy_front.specs.FoundLaws.{Fine, all_fine}
use Rattle.envoy_front.specs.AgainLaws.{Again, again}
use Rattle.envoy_front.specs.FaultLaws.{fails_again}

item_keeps : (bytes : List ℕ) (given : Given) → IsItem bytes given → KeepsItem bytes given
item_keeps bytes given (plain b h eb eg) = at_both KeepsItem bytes (b ∷ []) given (Byte b) eb eg (record { good = (and_parts (not (eqb b 10)) (not (eqb b 37)) h).0; short = omega arith })
item_keeps bytes given (percent eb eg) = at_both KeepsItem bytes (37 ∷ 37 ∷ []) given (Byte 37) eb eg (record { good = refl; short = omega arith })
item_keeps bytes given (command c sort h eb eg) = at_both KeepsItem bytes (spelling c) given (Slot (slot_of c sort)) eb eg (record { good = keeps_slot c sort; short = omega arith })

pub laws : ReadsItems reading item_is fault_is
unfolding Fine Again
laws = record {
  found = λ state text item after some read. subst (Fine text) read (all_fine state text some);
  failed = λ state text cause some read. subst (Fine text) read (all_fine state text some);
  item_found = λ state item after is. again state item.bytes item.given after is;
  keeps = λ state item after is. item_keeps item.bytes item.given is;
  fault_found = λ state text cause is. fails_again state text cause is;
}
