-- At the start of a text stands one item, or none for one cause, and what an item gives is good.
use Rattle.std.proofs.Common.{◌≡◌, ℕ, true, cond, not, ◌&&◌, eqb, List, [], ◌∷◌, Option, Some, None, refl, subst, arith}
use Rattle.std.proofs.lemmas.Bool.{cond_both, and_parts}
use Rattle.lf_spelling.specs.declared.item_reader.Given.{Given}
use Rattle.lf_spelling.specs.declared.item_reader.Given.TheVariants.{Byte, Slot}
use Rattle.apache_front.specs.Directive.{spelling, absence, slot_of}
use Rattle.apache_front.specs.Items.{escaped, IsItem, plain, escape, backslash, percent, directive}
use Rattle.apache_front.specs.Reading.{reading, item_is, fault_is}
use Rattle.lf_spelling.specs.ItemReaders.{ReadsItems, KeepsItem}
use Rattle.lf_spelling.specs.ItemLaws.{at_both}
use Rattle.lf_format.specs.Keeps.{is_no_feed}
use Rattle.apache_front.specs.SlotLaws.{row_keeps}
use Rattle.apache_front.specs.FoundLaws.{Fine, all_fine}
use Rattle.apache_front.specs.AgainLaws.{Again, again}
use Rattle.apache_front.specs.FaultLaws.{fails_again}

some_is : (a b : ℕ) → Some a ≡ Some b → a ≡ b
some_is a b e = cc

escape_keeps : (c b : ℕ) → escaped c ≡ Some b → is_no_feed b ≡ true
escape_keeps c b =
    let P : Option ℕ → Type 0 = λ o. o ≡ Some b → is_no_feed b ≡ true in
    cond_both (eqb c 34) (Some 34) (cond (eqb c 92) (Some 92) (cond (eqb c 116) (Some 9) None)) P
    (λ t e. subst (λ (n : ℕ). is_no_feed n ≡ true) (some_is 34 b e) refl)
    (λ f. cond_both (eqb c 92) (Some 92) (cond (eqb c 116) (Some 9) None) P
    (λ t e. subst (λ (n : ℕ). is_no_feed n ≡ true) (some_is 92 b e) refl)
    (λ f. cond_both (eqb c 116) (Some 9) None P (λ t e. subst (λ (n : ℕ). is_no_feed n ≡ true) (some_is 9 b e) refl) (λ f e. absurd cc)))

item_keeps : (bytes : List ℕ) (given : Given) (after : List ℕ) → IsItem bytes given after → KeepsItem bytes given
item_keeps bytes given after (plain b h eb eg) = at_both KeepsItem bytes (b ∷ []) given (Byte b) eb eg (record { good = (and_parts (not (eqb b 10)) (not (eqb b 92)) (and_parts (not (eqb b 10) && not (eqb b 92)) (not (eqb b 37)) h).0).0; short = omega arith })
item_keeps bytes given after (escape c b h eb eg) = at_both KeepsItem bytes (92 ∷ c ∷ []) given (Byte b) eb eg (record { good = escape_keeps c b h; short = omega arith })
item_keeps bytes given after (backslash h eb eg) = at_both KeepsItem bytes (92 ∷ []) given (Byte 92) eb eg (record { good = refl; short = omega arith })
item_keeps bytes given after (percent eb eg) = at_both KeepsItem bytes (37 ∷ 37 ∷ []) given (Byte 37) eb eg (record { good = refl; short = omega arith })
item_keeps bytes given after (directive d row h eb eg) = at_both KeepsItem bytes (spelling d) given (Slot (slot_of d row)) eb eg (record { good = row_keeps (spelling d) row (absence d.flags row.absent); short = omega arith })

pub laws : ReadsItems reading item_is fault_is
unfolding Fine Again
laws = record {
  found = λ state text item after some read. subst (Fine text) read (all_fine state text some);
  failed = λ state text cause some read. subst (Fine text) read (all_fine state text some);
  item_found = λ state item after is. again state item.bytes item.given after is;
  keeps = λ state item after is. item_keeps item.bytes item.given after is;
  fault_found = λ state text cause is. fails_again state text cause is;
}
