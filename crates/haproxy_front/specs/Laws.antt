-- At the start of a text stands one item, or none for one cause, and what an item gives is good.
use Rattle.std.proofs.Common.{◌≡◌, ℕ, ◌≤◌, false, not, ◌&&◌, eqb, List, [], ◌∷◌, length, Option, Some, refl, subst, length-append, arith}
use Rattle.std.specs.Prelude.{codes}
use Rattle.std.proofs.lemmas.Bool.{and_parts}
use Rattle.lf_spelling.specs.declared.item_reader.Given.{Given}
use Rattle.lf_spelling.specs.declared.item_reader.Given.TheVariants.{Nothing, Byte}
use Rattle.lf_format.specs.declared.slot.Slot.{Slot}
use Rattle.lf_spelling.specs.ItemReaders.{ReadsItems, KeepsGiven, KeepsItem, given_bytes}
use Rattle.lf_spelling.specs.ItemLaws.{at_both}
use Rattle.lf_spelling.specs.Texts.{is_nothing}
use Rattle.lf_format.specs.Keeps.{KeepsSlot}
use Rattle.haproxy_front.specs.declared.flags.Flags.{Flags}
use Rattle.haproxy_front.specs.declared.table.Row.{Row}
use Rattle.haproxy_front.specs.declared.table.Sort.{Sort}
use Rattle.haproxy_front.specs.declared.table.Sort.TheVariants.{Captures}
use Rattle.haproxy_front.specs.Table.{row_of}
use Rattle.haproxy_front.specs.Slots.{slot_of, given_of}
use Rattle.haproxy_front.specs.Items.{braced, spelling, changed_by, IsItem, plain, spaces, percent, change, value}
use Rattle.haproxy_front.specs.Reading.{reading, item_is, fault_is}
use Rattle.haproxy_front.specs.NameLaws.{table_named}
use Rattle.haproxy_front.specs.SlotLaws.{row_keeps}
use Rattle.haproxy_front.specs.FoundLaws.{Fine, all_fine}
use Rattle.haproxy_front.specs.AgainLaws.{Again, again}
use Rattle.haproxy_front.specs.FaultLaws.{fails_again}

sort_keeps : (sort : Sort) (slot : Slot) → KeepsSlot slot → KeepsGiven (given_of sort slot) × (given_bytes (given_of sort slot) ≤ 2)
sort_keeps Captures slot h = (h, omega arith)
sort_keeps _ slot h = (h, omega arith)

spelled_length : (flags : Option (List ℕ)) (name : List ℕ) → is_nothing name ≡ false → 2 ≤ length (spelling flags name)
spelled_length flags [] some = absurd cc
spelled_length flags (letter ∷ name) some = omega (arith, length-append (braced flags) (letter ∷ name))

value_keeps : (held : Flags) (flags : Option (List ℕ)) (name : List ℕ) (row : Row) → row_of name ≡ Some row → KeepsItem (spelling flags name) (given_of row.sort (slot_of name row (changed_by held flags)))
value_keeps held flags name row is =
    let k = sort_keeps row.sort (slot_of name row (changed_by held flags)) (row_keeps name row (changed_by held flags)) in
    let long = spelled_length flags name (table_named name row is).some in
    record { good = k.0; short = omega (arith, k.1, long) }

item_keeps : (held : Flags) (bytes : List ℕ) (given : Given) (next : Flags) (after : List ℕ) → IsItem held bytes given next after → KeepsItem bytes given
item_keeps held bytes given next after (plain b h eb eg en) = at_both KeepsItem bytes (b ∷ []) given (Byte b) eb eg (record { good = (and_parts (not (eqb b 10)) (not (eqb b 32)) (and_parts (not (eqb b 10) && not (eqb b 32)) (not (eqb b 37)) h).0).0; short = omega arith })
item_keeps held bytes given next after (spaces more all stop eb eg en) = at_both KeepsItem bytes (32 ∷ more) given (Byte 32) eb eg (record { good = refl; short = omega arith })
item_keeps held bytes given next after (percent eb eg en) = at_both KeepsItem bytes (37 ∷ 37 ∷ []) given (Byte 37) eb eg (record { good = refl; short = omega arith })
item_keeps held bytes given next after (change flags changes stop eb eg en) = at_both KeepsItem bytes (spelling flags (codes "o")) given Nothing eb eg (record { good = tt; short = omega arith })
item_keeps held bytes given next after (value flags name row changes is stop eb eg en) = at_both KeepsItem bytes (spelling flags name) given (given_of row.sort (slot_of name row (changed_by held flags))) eb eg (value_keeps held flags name row is)

pub laws : ReadsItems reading item_is fault_is
unfolding Fine Again
laws = record {
  found = λ held text item after some read. subst (Fine held text) read (all_fine held text some);
  failed = λ held text cause some read. subst (Fine held text) read (all_fine held text some);
  item_found = λ held item after is. again held item.bytes item.given item.state after is;
  keeps = λ held item after is. item_keeps held item.bytes item.given item.state after is;
  fault_found = λ held text cause is. fails_again held text cause is;
}
