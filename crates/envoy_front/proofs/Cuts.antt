-- A command that is taken apart by lengths.
use Rattle.std.proofs.Common.{◌≡◌, ℕ, ◌≤◌, ◌+◌, ◌-◌, false, List, [], ◌∷◌, ◌++◌, length, take, drop, Option, Some, None, Ok, sym, ap, subst, ◌∙◌, append_assoc, length-append, arith}
use Rattle.std.proofs.lemmas.List.{take_at, drop_at}
use Rattle.std.specs.Str.{IsUtf8}
use Rattle.lf_spelling.specs.Cuts.{EndsText}
use Rattle.lf_spelling.specs.TextLaws.{text_between, text_after}
use Rattle.lf_spelling.specs.Texts.{without_first}
use Rattle.lf_spelling.specs.Enclosed.{enclosed}
use Rattle.lf_spelling.specs.Items.{Failed}
use Rattle.lf_spelling.specs.declared.fault.Cause.TheVariants.{UnknownName}
use Rattle.lf_spelling.specs.declared.item_reader.Given.{Given}
use Rattle.lf_spelling.specs.declared.item_reader.Given.TheVariants.{Slot}
use Rattle.lf_format.specs.declared.slot.Absent.{Absent}
use Rattle.lf_format.specs.declared.kind.Kind.{Kind}
use Rattle.lf_escape.specs.declared.coding.Coding.TheVariants.{Raw}
use Rattle.envoy_front.specs.declared.table.Sort.{Sort}
use Rattle.envoy_front.specs.Table.{sort_of, kind_of, absence}
use Rattle.envoy_front.specs.Command.{Command, counted, spelling, slot_of, name_of, after_name, argument_of, after_argument, length_of, IsTail}
use Rattle.envoy_front.specs.Reading.{found, command_in, after_command, unless, on_sort, on_command, Gives}
use Rattle.envoy_front.specs.Parts.{good_tail, text_parts}

pub unknown : (text : List ℕ) → sort_of (name_of text) ≡ None → on_command text ≡ Failed UnknownName
unknown text none = ap (on_sort text) none

-- what a command has between its percent signs, with the second one
abbrev body : List ℕ → List ℕ
body text = name_of text ++ (enclosed 40 41 (argument_of (after_name text)) ++ (counted (length_of (after_argument (after_name text))) ++ 37 ∷ []))

-- The parts that the code has cut are those of the command, and this follows it.
pub record IsRead (text : List ℕ) (argument counts : Option (List ℕ)) (after : List ℕ) (sort : Sort) : Type 0 where
  pub sort_is : sort_of (name_of text) ≡ Some sort
  pub tail : IsTail sort (after_name text) argument counts after
  pub end : after ≡ after_command text
  pub cut : text ≡ body text ++ after_command text
  pub long : length text ≡ length (body text) + length after

pub read : (text name tail : List ℕ) (argument counts : Option (List ℕ)) (after : List ℕ) (sort : Sort) → name ≡ name_of text → tail ≡ after_name text → Some sort ≡ sort_of name → IsTail sort tail argument counts after → IsRead text argument counts after sort
read text name tail argument counts after sort name_is tail_is sort_is h =
    let t : IsTail sort (after_name text) argument counts after = subst (λ (x : List ℕ). IsTail sort x argument counts after) tail_is h in
    let end : after ≡ after_command text = sym (ap without_first t.after_is) in
    let cut : text ≡ body text ++ after_command text = text_parts sort text (good_tail sort (after_name text) t.good) ∙ sym (simp append_assoc) in
    record {
      sort_is = sym (sort_is ∙ ap sort_of name_is);
      tail = t;
      end = end;
      cut = cut;
      long = omega (arith, ap length cut, ap length end, length-append (body text) (after_command text));
    }

pub end_fits : (text : List ℕ) (argument counts : Option (List ℕ)) (after : List ℕ) (sort : Sort) → IsRead text argument counts after sort → length after ≤ length text
end_fits text argument counts after sort h = omega (arith, h.long)

taken_body : (text : List ℕ) (argument counts : Option (List ℕ)) (after : List ℕ) (sort : Sort) → IsRead text argument counts after sort → take (length text - length after) text ≡ body text
taken_body text argument counts after sort h = ap (take (length text - length after)) h.cut ∙ take_at (body text) (after_command text) (length text - length after) (omega (arith, h.long))

-- a command is text
pub command_text : (text : List ℕ) (argument counts : Option (List ℕ)) (after : List ℕ) (sort : Sort) → EndsText (37 ∷ text) → IsRead text argument counts after sort → IsUtf8 (take (length text - length after) text)
command_text text argument counts after sort ends h =
    let middle : List ℕ = name_of text ++ (enclosed 40 41 (argument_of (after_name text)) ++ counted (length_of (after_argument (after_name text)))) in
    let parts : body text ≡ (name_of text ++ (enclosed 40 41 (argument_of (after_name text)) ++ counted (length_of (after_argument (after_name text))))) ++ 37 ∷ [] = sym (simp append_assoc) in
    let cut : text ≡ (name_of text ++ (enclosed 40 41 (argument_of (after_name text)) ++ counted (length_of (after_argument (after_name text))))) ++ 37 ∷ after_command text =
    h.cut ∙ ap (λ (t : List ℕ). t ++ after_command text) parts ∙ append_assoc middle (37 ∷ []) (after_command text) in
    let all : IsUtf8 (ends.0 ++ 37 ∷ (middle ++ 37 ∷ after_command text)) = subst (λ (t : List ℕ). IsUtf8 (ends.0 ++ 37 ∷ t)) cut ends.1 in
    let signed : IsUtf8 (37 ∷ take (length text - length after) text) =
    subst (λ (t : List ℕ). IsUtf8 (37 ∷ t)) (sym (taken_body text argument counts after sort h ∙ parts)) (text_between ends.0 37 middle 37 (after_command text) all (omega arith) (omega arith)) in
    text_after 37 (take (length text - length after) text) signed (omega arith)

-- what the code gives is what the command gives
pub gives : (text : List ℕ) (argument counts : Option (List ℕ)) (after : List ℕ) (sort : Sort) (name : List ℕ) (kind : Kind) (absent : Absent) → IsRead text argument counts after sort
    → name ≡ 37 ∷ take (length text - length after) text → kind ≡ kind_of sort argument counts → absent ≡ absence sort
    → Gives (on_command text) (37 ∷ text) (Ok (record { given = Slot (record { name = name; kind = kind; code = Raw; absent = absent; present = false; quoted = false }); len = 1 + (length text - length after) }))
gives text argument counts after sort name kind absent h name_is kind_is absent_is =
    let n : ℕ = length text - length after in
    let c : Command = command_in text in
    let size : length (spelling c) ≡ 1 + n = omega (arith, h.long) in
    let cut : 37 ∷ text ≡ spelling c ++ after_command text = ap (λ (t : List ℕ). 37 ∷ t) h.cut in
    let front : take (1 + n) (37 ∷ text) ≡ spelling c = ap (take (1 + n)) cut ∙ take_at (spelling c) (after_command text) (1 + n) size in
    let back : drop (1 + n) (37 ∷ text) ≡ after_command text = ap (drop (1 + n)) cut ∙ drop_at (spelling c) (after_command text) (1 + n) size in
    let spelled : name ≡ spelling c = name_is ∙ ap (λ (t : List ℕ). 37 ∷ t) (taken_body text argument counts after sort h) in
    let holds : kind ≡ kind_of sort c.argument c.length =
    kind_is ∙ ap (λ (x : Option (List ℕ)). kind_of sort x counts) (sym h.tail.argument_is) ∙ ap (λ (x : Option (List ℕ)). kind_of sort (argument_of (after_name text)) x) (sym h.tail.length_is) in
    let slot_is : Slot (record { name = name; kind = kind; code = Raw; absent = absent; present = false; quoted = false }) ≡ Slot (slot_of c sort) =
    ap (λ (t : List ℕ). Slot (record { name = t; kind = kind; code = Raw; absent = absent; present = false; quoted = false })) spelled
    ∙ ap (λ (k : Kind). Slot (record { name = spelling (command_in text); kind = k; code = Raw; absent = absent; present = false; quoted = false })) holds
    ∙ ap (λ (a : Absent). Slot (record { name = spelling (command_in text); kind = kind_of sort (argument_of (after_name text)) (length_of (after_argument (after_name text))); code = Raw; absent = a; present = false; quoted = false })) absent_is in
    let read : on_command text ≡ found (spelling c) (Slot (slot_of c sort)) (after_command text) =
    ap (on_sort text) h.sort_is ∙ ap (λ o. unless o (found (spelling (command_in text)) (Slot (slot_of (command_in text) sort)) (after_command text))) h.tail.good in
    let fits : 1 + n ≤ length (37 ∷ text) = omega (arith, h.long) in (
      fits,
      read ∙ ap (λ (t : List ℕ). found t (Slot (slot_of (command_in text) sort)) (after_command text)) (sym front) ∙ ap (λ (g : Given). found (take (1 + n) (37 ∷ text)) g (after_command text)) (sym slot_is)
          ∙ ap (λ (t : List ℕ). found (take (1 + n) (37 ∷ text)) (Slot (record { name = name; kind = kind; code = Raw; absent = absent; present = false; quoted = false })) t) (sym back),
    )
