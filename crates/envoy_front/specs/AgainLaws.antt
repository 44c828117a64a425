-- What stands at the start of a text is read there.
use Rattle.std.proofs.Common.{◌≡◌, ℕ, ◌≤◌, Bool, true, false, cond, not, eqb, List, [], ◌∷◌, ◌++◌, length, Option, Some, None, refl, sym, ap, ◌∙◌, append_assoc, arith}
use Rattle.std.specs.Prelude.{IfSome}
use Rattle.std.specs.List.{list_all}
use Rattle.std.proofs.lemmas.Bool.{and_parts, not-true, ne_eqb}
use Rattle.lf_spelling.specs.Runs.{stops}
use Rattle.lf_spelling.specs.RunLaws.{run_again}
use Rattle.lf_spelling.specs.Texts.{is_digit, begins_with, without_first}
use Rattle.lf_spelling.specs.Enclosed.{enclosed, is_unclosed}
use Rattle.lf_spelling.specs.EnclosedLaws.{part_again}
use Rattle.lf_spelling.specs.ItemLaws.{at_both}
use Rattle.lf_spelling.specs.Items.{Failed}
use Rattle.lf_spelling.specs.declared.fault.Cause.TheVariants.{LineBreak}
use Rattle.lf_spelling.specs.declared.item_reader.Given.{Given}
use Rattle.lf_spelling.specs.declared.item_reader.Given.TheVariants.{Byte, Slot}
use Rattle.envoy_front.specs.declared.front.Envoy.{Envoy}
use Rattle.envoy_front.specs.declared.table.Sort.{Sort}
use Rattle.envoy_front.specs.Table.{sort_of, takes, takes_length}
use Rattle.envoy_front.specs.Command.{is_upper, Command, counted, spelling, IsCommand, slot_of, name_of, after_name, argument_of, after_argument, length_of, after_length, tail_cause}
use Rattle.envoy_front.specs.Items.{is_plain, IsItem, plain, percent, command}
use Rattle.envoy_front.specs.Reading.{found, command_in, after_command, unless, on_sort, on_command, on_percent, reading}
use Rattle.envoy_front.specs.Parts.{four_tests}

-- no byte that can follow the name passes the test
stops_name : (p : ℕ → Bool) (argument counts : Option (List ℕ)) (after : List ℕ) → p 40 ≡ false → p 58 ≡ false → p 37 ≡ false → stops p (enclosed 40 41 argument ++ (counted counts ++ 37 ∷ after)) ≡ true
stops_name p (Some a) counts after paren colon sign = ap not paren
stops_name p None (Some d) after paren colon sign = ap not colon
stops_name p None None after paren colon sign = ap not sign

-- no parenthesis follows the argument
no_argument : (counts : Option (List ℕ)) (after : List ℕ) → begins_with 40 (counted counts ++ 37 ∷ after) ≡ false
no_argument None after = refl
no_argument (Some d) after = refl

record LengthCut (rest : List ℕ) (counts : Option (List ℕ)) (end : List ℕ) : Type 0 where
  length_is : length_of rest ≡ counts
  end_is : after_length rest ≡ end

length_again : (counts : Option (List ℕ)) (after : List ℕ) → IfSome counts (λ d. list_all is_digit d ≡ true) → LengthCut (counted counts ++ 37 ∷ after) counts (37 ∷ after)
length_again None after digits = record { length_is = refl; end_is = refl }
length_again (Some d) after digits =
    let more = run_again is_digit d (37 ∷ after) digits refl in
    record { length_is = ap (λ (t : List ℕ). Some t) more.front_is; end_is = more.back_is }

-- a command's name is not empty, and so no percent sign follows the first one
no_percent : (name : List ℕ) (sort : Sort) (text : List ℕ) → list_all is_upper name ≡ true → sort_of name ≡ Some sort → begins_with 37 (name ++ text) ≡ false
no_percent [] sort text named is = absurd cc
no_percent (b ∷ name) sort text named is =
    let upper : is_upper b ≡ true = (and_parts (is_upper b) (list_all is_upper name) named).0 in
    ne_eqb b 37 (λ e. let same : true ≡ false = sym upper ∙ ap is_upper e in absurd cc)

pub percent_other : (text : List ℕ) → begins_with 37 text ≡ false → on_percent text ≡ on_command text
percent_other [] other = refl
percent_other (c ∷ text) other = ap (λ v. cond v (found (37 ∷ 37 ∷ []) (Byte 37) text) (on_command (c ∷ text))) other

four_pass : (u t l e : Bool) → u ≡ false → t ≡ true → l ≡ true → e ≡ true → four_tests u t l e ≡ None
four_pass u t l e hu ht hl he = rw (hu, ht, hl, he) refl

-- a command that is taken apart into these parts
pub record IsTaken (text : List ℕ) (c : Command) (after : List ℕ) : Type 0 where
  pub name_is : name_of text ≡ c.name
  pub argument_is : argument_of (after_name text) ≡ c.argument
  pub length_is : length_of (after_argument (after_name text)) ≡ c.length
  pub end_is : after_length (after_argument (after_name text)) ≡ 37 ∷ after
  pub shut : is_unclosed 40 41 (after_name text) ≡ false

taken_again : (c : Command) (sort : Sort) (after : List ℕ) → IsCommand c sort → IsTaken (c.name ++ (enclosed 40 41 c.argument ++ (counted c.length ++ 37 ∷ after))) c after
taken_again c sort after h =
    let text : List ℕ = c.name ++ (enclosed 40 41 c.argument ++ (counted c.length ++ 37 ∷ after)) in
    let nc = run_again is_upper c.name (enclosed 40 41 c.argument ++ (counted c.length ++ 37 ∷ after)) h.named (stops_name is_upper c.argument c.length after refl refl refl) in
    let ac = part_again 40 41 c.argument (counted c.length ++ 37 ∷ after) h.closed (no_argument c.length after) in
    let lc = length_again c.length after h.digits in
    let rest_is : after_argument (after_name text) ≡ counted c.length ++ 37 ∷ after = ap after_argument nc.back_is ∙ ac.rest_is in
    record {
      name_is = nc.front_is;
      argument_is = ap argument_of nc.back_is ∙ ac.part_is;
      length_is = ap length_of rest_is ∙ lc.length_is;
      end_is = ap after_length rest_is ∙ lc.end_is;
      shut = ap (is_unclosed 40 41) nc.back_is ∙ ac.shut;
    }

command_again : (state : Envoy) (c : Command) (sort : Sort) (after : List ℕ) → IsCommand c sort → reading state (spelling c ++ after) ≡ found (spelling c) (Slot (slot_of c sort)) after
command_again state c sort after h =
    let text : List ℕ = c.name ++ (enclosed 40 41 c.argument ++ (counted c.length ++ 37 ∷ after)) in
    let whole : (c.name ++ (enclosed 40 41 c.argument ++ (counted c.length ++ 37 ∷ []))) ++ after ≡ c.name ++ (enclosed 40 41 c.argument ++ (counted c.length ++ 37 ∷ after)) = simp append_assoc in
    let cut = taken_again c sort after h in
    let sort_is : sort_of (name_of text) ≡ Some sort = ap sort_of cut.name_is ∙ h.sort_is in
    let none : tail_cause sort (after_name text) ≡ None =
    four_pass (is_unclosed 40 41 (after_name text)) (takes sort (argument_of (after_name text))) (takes_length sort (length_of (after_argument (after_name text)))) (begins_with 37 (after_length (after_argument (after_name text))))
    cut.shut (ap (takes sort) cut.argument_is ∙ h.taken) (ap (takes_length sort) cut.length_is ∙ h.sized) (ap (begins_with 37) cut.end_is) in
    let command_is : command_in text ≡ c =
    ap (λ (n : List ℕ). record (command_in text) { name = n }) cut.name_is ∙ ap (λ (a : Option (List ℕ)). record c { argument = a; length = length_of (after_argument (after_name text)) }) cut.argument_is ∙ ap (λ (l : Option (List ℕ)). record c { length = l }) cut.length_is in
    let after_is : after_command text ≡ after = ap without_first cut.end_is in
    ap on_percent whole ∙ percent_other text (no_percent c.name sort (enclosed 40 41 c.argument ++ (counted c.length ++ 37 ∷ after)) h.named h.sort_is)
    ∙ ap (on_sort text) sort_is
    ∙ ap (λ o. unless o (found (spelling (command_in text)) (Slot (slot_of (command_in text) sort)) (after_command text))) none
    ∙ ap (λ (x : Command). found (spelling x) (Slot (slot_of x sort)) (after_command text)) command_is
    ∙ ap (λ (t : List ℕ). found (spelling c) (Slot (slot_of c sort)) t) after_is

unfoldable pub Again : Envoy → List ℕ → List ℕ → Given → Type 0
Again state after bytes given = (1 ≤ length bytes) × (reading state (bytes ++ after) ≡ found bytes given after)

plain_again : (state : Envoy) (b : ℕ) (after : List ℕ) → is_plain b ≡ true → reading state (b ∷ after) ≡ found (b ∷ []) (Byte b) after
plain_again state b after h =
    let two = and_parts (not (eqb b 10)) (not (eqb b 37)) h in
    ap (λ v. cond v (Failed LineBreak) (cond (eqb b 37) (on_percent after) (found (b ∷ []) (Byte b) after))) (not-true (eqb b 10) two.0)
    ∙ ap (λ v. cond v (on_percent after) (found (b ∷ []) (Byte b) after)) (not-true (eqb b 37) two.1)

pub again : (state : Envoy) (bytes : List ℕ) (given : Given) (after : List ℕ) → IsItem bytes given → Again state after bytes given
unfolding Again
again state bytes given after (plain b h eb eg) = at_both (Again state after) bytes (b ∷ []) given (Byte b) eb eg (omega arith, plain_again state b after h)
again state bytes given after (percent eb eg) = at_both (Again state after) bytes (37 ∷ 37 ∷ []) given (Byte 37) eb eg (omega arith, refl)
again state bytes given after (command c sort h eb eg) = at_both (Again state after) bytes (spelling c) given (Slot (slot_of c sort)) eb eg (omega arith, command_again state c sort after h)
