-- At the start of a text stands one item, or none for one cause, and what an item gives is good.
use Rattle.std.proofs.Common.{◌≡◌, ℕ, not, eqb, List, [], ◌∷◌, sym, ap, subst, ◌∙◌, arith}
use Rattle.std.proofs.lemmas.Bool.{and_parts}
use Rattle.lf_spelling.specs.Items.{Item, Found}
use Rattle.lf_spelling.specs.declared.item_reader.Given.{Given}
use Rattle.lf_spelling.specs.declared.item_reader.Given.TheVariants.{Byte, Slot}
use Rattle.lf_spelling.specs.ItemReaders.{ReadsItems, KeepsItem}
use Rattle.lf_spelling.specs.ItemLaws.{at_both}
use Rattle.nginx_front.specs.declared.front.Nginx.{Nginx}
use Rattle.nginx_front.specs.declared.table.Escape.{Escape}
use Rattle.nginx_front.specs.Variables.{spelling, braced_spelling, slot_of}
use Rattle.nginx_front.specs.Items.{IsItem, plain, bare, braced}
use Rattle.nginx_front.specs.Reading.{reading, item_is, fault_is, found}
use Rattle.nginx_front.specs.SlotLaws.{keeps_slot}
use Rattle.nginx_front.specs.FoundLaws.{Fine, all_fine}
use Rattle.nginx_front.specs.AgainLaws.{Again, again, Fails, fails_again}

item_keeps : (escape : Escape) (bytes : List ℕ) (given : Given) (after : List ℕ) → IsItem escape bytes given after → KeepsItem bytes given
item_keeps escape bytes given after (plain b h eb eg) = at_both KeepsItem bytes (b ∷ []) given (Byte b) eb eg (record { good = (and_parts (not (eqb b 10)) (not (eqb b 36)) h).0; short = omega arith })
item_keeps escape bytes given after (bare name good stop eb eg) = at_both KeepsItem bytes (spelling name) given (Slot (slot_of escape name)) eb eg (record { good = keeps_slot escape name; short = omega arith })
item_keeps escape bytes given after (braced name good eb eg) = at_both KeepsItem bytes (braced_spelling name) given (Slot (slot_of escape name)) eb eg (record { good = keeps_slot escape name; short = omega arith })

-- the item found again is the item
same_item : (state : Nginx) (item : Item Nginx) (after : List ℕ) → item.state ≡ state → found state item.bytes item.given after ≡ Found item after
same_item state item after same = ap (λ (s : Nginx). found s item.bytes item.given after) (sym same)

pub laws : ReadsItems reading item_is fault_is
unfolding Fine Again Fails
laws = record {
  found = λ state text item after some read. subst (Fine state text) read (all_fine state text some);
  failed = λ state text cause some read. subst (Fine state text) read (all_fine state text some);
  item_found = λ state item after is. let h = again state item.bytes item.given after is.is in (h.0, h.1 ∙ same_item state item after is.same);
  keeps = λ state item after is. item_keeps state.escape item.bytes item.given after is.is;
  fault_found = λ state text cause is. fails_again state text cause is;
}
