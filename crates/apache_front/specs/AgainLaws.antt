-- What stands at the start of a text is read there.
use Rattle.std.proofs.Common.{◌≡◌, ℕ, ◌≤◌, Bool, true, false, cond, not, ◌&&◌, eqb, List, [], ◌∷◌, ◌++◌, length, Option, Some, None, refl, sym, ap, subst, ◌∙◌, append_assoc, arith, inl, inr}
use Rattle.std.specs.Prelude.{is_some}
use Rattle.std.specs.List.{list_all}
use Rattle.std.proofs.lemmas.Bool.{eqb-true, cases_Bool, and_parts, and_from, or_parts, or_cases, not-true}
use Rattle.lf_spelling.specs.Runs.{run, past}
use Rattle.lf_spelling.specs.Runs.{stops}
use Rattle.lf_spelling.specs.RunLaws.{IsCut, run_again, apart}
use Rattle.lf_spelling.specs.Texts.{is_digit, begins_with}
use Rattle.lf_spelling.specs.Enclosed.{is_unclosed}
use Rattle.lf_spelling.specs.EnclosedLaws.{part_again}
use Rattle.lf_spelling.specs.ItemLaws.{at_both}
use Rattle.lf_spelling.specs.Items.{Reading, Failed}
use Rattle.lf_spelling.specs.declared.fault.Cause.TheVariants.{LineBreak, BadFlags, Unclosed, BadName}
use Rattle.lf_spelling.specs.declared.item_reader.Given.{Given}
use Rattle.lf_spelling.specs.declared.item_reader.Given.TheVariants.{Byte, Slot}
use Rattle.apache_front.specs.declared.front.Apache.{Apache}
use Rattle.apache_front.specs.declared.table.Row.{Row}
use Rattle.apache_front.specs.Table.{row_of, takes}
use Rattle.apache_front.specs.Directive.{is_flag, is_status_list, are_flags, is_angle, is_side, Directive, braced, spelling, IsDirective, slot_of, flags_of, after_flags, side_of, after_side, name_of, after_name}
use Rattle.apache_front.specs.Items.{escaped, begins_escape, is_plain, IsItem, plain, escape, backslash, percent, directive}
use Rattle.apache_front.specs.Reading.{found, on_row, on_letter, on_directive, on_percent, on_escape, on_backslash, reading}
use Rattle.apache_front.specs.Letters.{is_lettered, table_lettered, lettered_no, not_flag}

digit_flag : (b : ℕ) → is_digit b ≡ true → is_flag b ≡ true
digit_flag b h = rw h refl

list_flags : (text : List ℕ) → is_status_list text ≡ true → list_all is_flag text ≡ true
list_flags [] h = refl
list_flags (a ∷ []) h = absurd cc
list_flags (a ∷ b ∷ []) h = absurd cc
list_flags (a ∷ b ∷ c ∷ []) h =
    let two = and_parts (is_digit a && is_digit b) (is_digit c) h in
    let one = and_parts (is_digit a) (is_digit b) two.0 in
    and_from (is_flag a) (list_all is_flag (b ∷ c ∷ [])) (digit_flag a one.0) (and_from (is_flag b) (list_all is_flag (c ∷ [])) (digit_flag b one.1) (and_from (is_flag c) (list_all is_flag []) (digit_flag c two.1) refl))
list_flags (a ∷ b ∷ c ∷ d ∷ more) h =
    let four = and_parts (((is_digit a && is_digit b) && is_digit c) && eqb d 44) (is_status_list more) h in
    let three = and_parts ((is_digit a && is_digit b) && is_digit c) (eqb d 44) four.0 in
    let two = and_parts (is_digit a && is_digit b) (is_digit c) three.0 in
    let one = and_parts (is_digit a) (is_digit b) two.0 in
    let comma : is_flag d ≡ true = subst (λ (n : ℕ). is_flag n ≡ true) (sym (eqb-true d 44 three.1)) refl in
    and_from (is_flag a) (list_all is_flag (b ∷ c ∷ d ∷ more)) (digit_flag a one.0) (and_from (is_flag b) (list_all is_flag (c ∷ d ∷ more)) (digit_flag b one.1) (and_from (is_flag c) (list_all is_flag (d ∷ more)) (digit_flag c two.1) (and_from (is_flag d) (list_all is_flag more) comma (list_flags more four.1))))

flags_again : (a text : List ℕ) → are_flags a ≡ true → stops is_flag text ≡ true → stops (λ b. eqb b 33) text ≡ true → IsCut (flags_of (a ++ text)) (after_flags (a ++ text)) a text
flags_again [] [] good stop bang = record { front_is = refl; back_is = refl }
flags_again [] (b ∷ text) good stop bang =
    let hno = not-true (eqb b 33) bang in
    let more = run_again is_flag [] (b ∷ text) refl stop in
    record { front_is = ap (λ v. cond v (b ∷ run is_flag text) (run is_flag (b ∷ text))) hno ∙ more.front_is; back_is = ap (λ v. cond v (past is_flag text) (past is_flag (b ∷ text))) hno ∙ more.back_is }
flags_again (x ∷ a) text good stop bang = elim (cases_Bool (eqb x 33)) [
  | inl e ↦
      let more = run_again is_flag a text (list_flags a (sym (ap (λ v. cond v (is_status_list a) (is_status_list (x ∷ a))) e) ∙ good)) stop in
      record { front_is = ap (λ v. cond v (x ∷ run is_flag (a ++ text)) (run is_flag (x ∷ (a ++ text)))) e ∙ ap (λ (t : List ℕ). x ∷ t) more.front_is; back_is = ap (λ v. cond v (past is_flag (a ++ text)) (past is_flag (x ∷ (a ++ text)))) e ∙ more.back_is }
  | inr e ↦
      let more = run_again is_flag (x ∷ a) text (list_flags (x ∷ a) (sym (ap (λ v. cond v (is_status_list a) (is_status_list (x ∷ a))) e) ∙ good)) stop in
      record { front_is = ap (λ v. cond v (x ∷ run is_flag (a ++ text)) (run is_flag (x ∷ (a ++ text)))) e ∙ more.front_is; back_is = ap (λ v. cond v (past is_flag (a ++ text)) (past is_flag (x ∷ (a ++ text)))) e ∙ more.back_is }
]

side_again : (s text : List ℕ) → is_side s ≡ true → stops is_angle text ≡ true → IsCut (side_of (s ++ text)) (after_side (s ++ text)) s text
side_again [] [] good stop = record { front_is = refl; back_is = refl }
side_again [] (b ∷ text) good stop = let hno = not-true (is_angle b) stop in record { front_is = ap (λ v. cond v (b ∷ []) []) hno; back_is = ap (λ v. cond v text (b ∷ text)) hno }
side_again (b ∷ []) text good stop = record { front_is = ap (λ v. cond v (b ∷ []) []) good; back_is = ap (λ v. cond v text (b ∷ text)) good }
side_again (b ∷ c ∷ s) text good stop = absurd cc

-- no byte of a side or of a brace passes, and the letter doesn't
stops_named : (p : ℕ → Bool) (name : Option (List ℕ)) (letter : ℕ) (after : List ℕ) → p 123 ≡ false → p letter ≡ false → stops p (braced name ++ letter ∷ after) ≡ true
stops_named p None letter after brace hno = ap not hno
stops_named p (Some n) letter after brace hno = ap not brace

stops_side : (p : ℕ → Bool) (s text : List ℕ) → is_side s ≡ true → p 60 ≡ false → p 62 ≡ false → stops p text ≡ true → stops p (s ++ text) ≡ true
stops_side p [] text good less more stop = stop
stops_side p (b ∷ []) text good less more stop = elim (or_cases (eqb b 60) (eqb b 62) good) [
  | inl e ↦ ap (λ (n : ℕ). not (p n)) (eqb-true b 60 e) ∙ ap not less
  | inr e ↦ ap (λ (n : ℕ). not (p n)) (eqb-true b 62 e) ∙ ap not more
]
stops_side p (b ∷ c ∷ s) text good less more stop = absurd cc

no_percent : (flags text : List ℕ) → are_flags flags ≡ true → stops (λ b. eqb b 37) text ≡ true → begins_with 37 (flags ++ text) ≡ false
no_percent [] [] good stop = refl
no_percent [] (b ∷ text) good stop = not-true (eqb b 37) stop
no_percent (x ∷ a) text good stop = elim (cases_Bool (eqb x 33)) [
  | inl e ↦ ap (λ (n : ℕ). eqb n 37) (eqb-true x 33 e)
  | inr e ↦ apart is_flag x 37 (and_parts (is_flag x) (list_all is_flag a) (list_flags (x ∷ a) (sym (ap (λ v. cond v (is_status_list a) (is_status_list (x ∷ a))) e) ∙ good))).0 refl
]

pub percent_other : (text : List ℕ) → begins_with 37 text ≡ false → on_percent text ≡ on_directive text
percent_other [] hno = refl
percent_other (c ∷ text) hno = ap (λ v. cond v (found (37 ∷ 37 ∷ []) (Byte 37) text) (on_directive (c ∷ text))) hno

-- a directive by its parts
abbrev pub on_cut : List ℕ → List ℕ → Bool → Option (List ℕ) → List ℕ → Reading Apache
on_cut flags side is_shut name tail = cond (not (are_flags flags)) (Failed BadFlags) (cond is_shut (Failed Unclosed) (on_letter flags side name tail))

pub cut_by : (text : List ℕ) → on_directive text ≡ on_cut (flags_of text) (side_of (after_flags text)) (is_unclosed 123 125 (after_side (after_flags text))) (name_of (after_side (after_flags text))) (after_name (after_side (after_flags text)))
cut_by text = refl

pub good_cut : (flags side : List ℕ) (name : Option (List ℕ)) (tail : List ℕ) (f s : List ℕ) (u : Bool) (n : Option (List ℕ)) (t : List ℕ) → f ≡ flags → s ≡ side → u ≡ false → n ≡ name → t ≡ tail → are_flags flags ≡ true → on_cut f s u n t ≡ on_letter flags side name tail
good_cut flags side name tail f s u n t fe se ue ne te good =
    ap (λ (f : List ℕ). on_cut f s u n t) fe ∙ ap (λ (s : List ℕ). on_cut flags s u n t) se ∙ ap (λ (u : Bool). on_cut flags side u n t) ue ∙ ap (λ (n : Option (List ℕ)). on_cut flags side false n t) ne ∙ ap (λ (t : List ℕ). on_cut flags side false name t) te
    ∙ ap (λ v. cond (not v) (Failed BadFlags) (on_letter flags side name tail)) good

pub good_row : (d : Directive) (after : List ℕ) (row : Row) → row_of d.letter ≡ Some row → takes row.names d.name ≡ true → on_letter d.flags d.side d.name (d.letter ∷ after) ≡ found (spelling d) (Slot (slot_of d row)) after
good_row d after row is taken = ap (on_row d after) is ∙ ap (λ v. cond v (found (spelling d) (Slot (slot_of d row)) after) (Failed BadName)) taken

directive_again : (state : Apache) (d : Directive) (row : Row) (after : List ℕ) → IsDirective d row → reading state (spelling d ++ after) ≡ found (spelling d) (Slot (slot_of d row)) after
directive_again state d row after h =
    let named_text : List ℕ = braced d.name ++ d.letter ∷ after in
    let sided : List ℕ = d.side ++ (braced d.name ++ d.letter ∷ after) in
    let whole : (d.flags ++ (d.side ++ (braced d.name ++ d.letter ∷ []))) ++ after ≡ d.flags ++ (d.side ++ (braced d.name ++ d.letter ∷ after)) = simp append_assoc in
    let lettered = table_lettered d.letter row h.row_is in
    let other : (n : ℕ) → is_lettered n ≡ false → eqb d.letter n ≡ false = λ n hno. apart is_lettered d.letter n lettered hno in
    let angle : is_angle d.letter ≡ false = (let a = other 60 (lettered_no 60 refl) in let b = other 62 (lettered_no 62 refl) in rw (a, b) refl) in
    let s_flag = stops_side is_flag d.side (braced d.name ++ d.letter ∷ after) h.side refl refl (stops_named is_flag d.name d.letter after refl (not_flag d.letter lettered)) in
    let s_bang = stops_side (λ b. eqb b 33) d.side (braced d.name ++ d.letter ∷ after) h.side refl refl (stops_named (λ b. eqb b 33) d.name d.letter after refl (other 33 (lettered_no 33 refl))) in
    let s_percent = stops_side (λ b. eqb b 37) d.side (braced d.name ++ d.letter ∷ after) h.side refl refl (stops_named (λ b. eqb b 37) d.name d.letter after refl (other 37 (lettered_no 37 refl))) in
    let fc = flags_again d.flags (d.side ++ (braced d.name ++ d.letter ∷ after)) h.flags s_flag s_bang in
    let sc = side_again d.side (braced d.name ++ d.letter ∷ after) h.side (stops_named is_angle d.name d.letter after refl angle) in
    let nc = part_again 123 125 d.name (d.letter ∷ after) h.closed (other 123 (lettered_no 123 refl)) in
    let text : List ℕ = d.flags ++ (d.side ++ (braced d.name ++ d.letter ∷ after)) in
    let after_is : after_side (after_flags text) ≡ braced d.name ++ d.letter ∷ after = ap after_side fc.back_is ∙ sc.back_is in
    ap on_percent whole ∙ percent_other text (no_percent d.flags (d.side ++ (braced d.name ++ d.letter ∷ after)) h.flags s_percent) ∙ cut_by text
    ∙ good_cut d.flags d.side d.name (d.letter ∷ after) (flags_of text) (side_of (after_flags text)) (is_unclosed 123 125 (after_side (after_flags text))) (name_of (after_side (after_flags text))) (after_name (after_side (after_flags text)))
    fc.front_is (ap side_of fc.back_is ∙ sc.front_is) (ap (is_unclosed 123 125) after_is ∙ nc.shut) (ap name_of after_is ∙ nc.part_is) (ap after_name after_is ∙ nc.rest_is) h.flags
    ∙ good_row d after row h.row_is h.taken

unfoldable pub Again : Apache → List ℕ → List ℕ → Given → Type 0
Again state after bytes given = (1 ≤ length bytes) × (reading state (bytes ++ after) ≡ found bytes given after)

plain_again : (state : Apache) (b : ℕ) (after : List ℕ) → is_plain b ≡ true → reading state (b ∷ after) ≡ found (b ∷ []) (Byte b) after
plain_again state b after h =
    let two = and_parts (not (eqb b 10) && not (eqb b 92)) (not (eqb b 37)) h in
    let one = and_parts (not (eqb b 10)) (not (eqb b 92)) two.0 in
    ap (λ v. cond v (Failed LineBreak) (cond (eqb b 92) (on_backslash after) (cond (eqb b 37) (on_percent after) (found (b ∷ []) (Byte b) after)))) (not-true (eqb b 10) one.0)
    ∙ ap (λ v. cond v (on_backslash after) (cond (eqb b 37) (on_percent after) (found (b ∷ []) (Byte b) after))) (not-true (eqb b 92) one.1)
    ∙ ap (λ v. cond v (on_percent after) (found (b ∷ []) (Byte b) after)) (not-true (eqb b 37) two.1)

escape_again : (c b : ℕ) (after : List ℕ) → escaped c ≡ Some b → on_backslash (c ∷ after) ≡ found (92 ∷ c ∷ []) (Byte b) after
escape_again c b after is = elim (cases_Bool (eqb c 110)) [
  | inl e ↦ let none : None ≡ Some b = sym (ap escaped (eqb-true c 110 e)) ∙ is in absurd (cc)
  | inr e ↦ ap (λ v. cond v (Failed LineBreak) (on_escape c after (escaped c))) e ∙ ap (on_escape c after) is
]

backslash_again : (after : List ℕ) → begins_escape after ≡ false → on_backslash after ≡ found (92 ∷ []) (Byte 92) after
backslash_again [] h = refl
backslash_again (c ∷ after) h =
    let hno = or_parts (eqb c 110) (is_some (escaped c)) h in
    ap (λ v. cond v (Failed LineBreak) (on_escape c after (escaped c))) hno.0 ∙ none_again (escaped c) hno.1
  where
    none_again : (o : Option ℕ) → is_some o ≡ false → on_escape c after o ≡ found (92 ∷ []) (Byte 92) (c ∷ after)
    none_again None e = refl
    none_again (Some b) e = absurd cc

pub again : (state : Apache) (bytes : List ℕ) (given : Given) (after : List ℕ) → IsItem bytes given after → Again state after bytes given
unfolding Again
again state bytes given after (plain b h eb eg) = at_both (Again state after) bytes (b ∷ []) given (Byte b) eb eg (omega arith, plain_again state b after h)
again state bytes given after (escape c b h eb eg) = at_both (Again state after) bytes (92 ∷ c ∷ []) given (Byte b) eb eg (omega arith, escape_again c b after h)
again state bytes given after (backslash h eb eg) = at_both (Again state after) bytes (92 ∷ []) given (Byte 92) eb eg (omega arith, backslash_again after h)
again state bytes given after (percent eb eg) = at_both (Again state after) bytes (37 ∷ 37 ∷ []) given (Byte 37) eb eg (omega arith, refl)
again state bytes given after (directive d row h eb eg) = at_both (Again state after) bytes (spelling d) given (Slot (slot_of d row)) eb eg (omega arith, directive_again state d row after h)
