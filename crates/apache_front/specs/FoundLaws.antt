-- What is read at the start of a text is so.
use Rattle.std.proofs.Common.{◌≡◌, ℕ, ◌≤◌, true, false, cond, not, eqb, List, [], ◌∷◌, ◌++◌, length, Option, Some, None, refl, sym, ap, subst, ◌∙◌, append_assoc, arith}
use Rattle.std.proofs.lemmas.Bool.{eqb-true, cond_both, not-false}
use Rattle.lf_spelling.specs.Texts.{begins_with}
use Rattle.lf_spelling.specs.Enclosed.{HoldsNo, is_unclosed}
use Rattle.lf_spelling.specs.EnclosedLaws.{enclosed_parts}
use Rattle.lf_spelling.specs.Items.{Reading, Found, Failed}
use Rattle.lf_spelling.specs.declared.fault.Cause.TheVariants.{LineBreak, BadFlags, Unclosed, BadName}
use Rattle.lf_spelling.specs.declared.item_reader.Given.TheVariants.{Byte, Slot}
use Rattle.apache_front.specs.declared.front.Apache.{Apache}
use Rattle.apache_front.specs.declared.table.Row.{Row}
use Rattle.apache_front.specs.Table.{row_of, takes}
use Rattle.apache_front.specs.Directive.{are_flags, is_angle, is_side, Directive, braced, spelling, slot_of, flags_of, after_flags, side_of, after_side, name_of, after_name, row_cause, letter_cause, cause_of}
use Rattle.apache_front.specs.Items.{escaped, IsItem, plain, escape, backslash, percent, directive, HasFault, line_feed, spelled_feed, bad_directive}
use Rattle.apache_front.specs.Reading.{found, on_row, on_letter, on_directive, on_percent, on_escape, on_backslash, reading}
use Rattle.apache_front.specs.Parts.{flags_join, side_join}

-- the reading says what is so of the text
unfoldable pub Fine : List ℕ → Reading Apache → Type 0
Fine text (Found item after) = (text ≡ item.bytes ++ after) × IsItem item.bytes item.given after
Fine text (Failed cause) = HasFault text cause

fine_row : (text : List ℕ) (d : Directive) (after : List ℕ) (row : Option Row) → text ≡ d.flags ++ (d.side ++ (braced d.name ++ d.letter ∷ after)) → are_flags d.flags ≡ true → is_side d.side ≡ true → HoldsNo 125 d.name
    → row_of d.letter ≡ row → begins_with 37 text ≡ false → cause_of text ≡ row_cause d.name row → Fine (37 ∷ text) (on_row d after row)
unfolding Fine
fine_row text d after None parts flags side closed is other cause = bad_directive text refl other cause
fine_row text d after (Some row) parts flags side closed is other cause =
    cond_both (takes row.names d.name) (found (spelling d) (Slot (slot_of d row)) after) (Failed BadName) (Fine (37 ∷ text))
    (λ e.
    let whole : d.flags ++ (d.side ++ (braced d.name ++ d.letter ∷ after)) ≡ (d.flags ++ (d.side ++ (braced d.name ++ d.letter ∷ []))) ++ after = sym (simp append_assoc) in
    (ap (λ (t : List ℕ). 37 ∷ t) (parts ∙ whole), directive d row (record { flags = flags; side = side; closed = closed; row_is = is; taken = e }) refl refl))
    (λ e. bad_directive text refl other (cause ∙ ap (λ v. cond v None (Some BadName)) e))

fine_letter : (text flags side : List ℕ) (name : Option (List ℕ)) (tail : List ℕ) → text ≡ flags ++ (side ++ (braced name ++ tail)) → are_flags flags ≡ true → is_side side ≡ true → HoldsNo 125 name
    → begins_with 37 text ≡ false → cause_of text ≡ letter_cause name tail → Fine (37 ∷ text) (on_letter flags side name tail)
unfolding Fine
fine_letter text flags side name [] parts good is_good closed other cause = bad_directive text refl other cause
fine_letter text flags side name (letter ∷ after) parts good is_good closed other cause =
    fine_row text (record { flags = flags; side = side; name = name; letter = letter }) after (row_of letter) parts good is_good closed refl other cause

side_is : (text : List ℕ) → is_side (side_of text) ≡ true
side_is [] = refl
side_is (b ∷ text) = cond_both (is_angle b) (b ∷ []) [] (λ t. is_side t ≡ true) (λ e. e) (λ e. refl)

fine_directive : (text : List ℕ) → begins_with 37 text ≡ false → Fine (37 ∷ text) (on_directive text)
unfolding Fine
fine_directive text other =
    let sided : List ℕ = after_flags text in
    let nameds : List ℕ = after_side sided in
    cond_both (not (are_flags (flags_of text))) (Failed BadFlags) (cond (is_unclosed 123 125 (after_side (after_flags text))) (Failed Unclosed) (on_letter (flags_of text) (side_of (after_flags text)) (name_of (after_side (after_flags text))) (after_name (after_side (after_flags text))))) (Fine (37 ∷ text))
    (λ e. bad_directive text refl other (ap (λ v. cond v (Some BadFlags) (cond (is_unclosed 123 125 (after_side (after_flags text))) (Some Unclosed) (letter_cause (name_of (after_side (after_flags text))) (after_name (after_side (after_flags text)))))) e))
    (λ e. cond_both (is_unclosed 123 125 (after_side (after_flags text))) (Failed Unclosed) (on_letter (flags_of text) (side_of (after_flags text)) (name_of (after_side (after_flags text))) (after_name (after_side (after_flags text)))) (Fine (37 ∷ text))
    (λ u. bad_directive text refl other (ap (λ v. cond v (Some BadFlags) (cond (is_unclosed 123 125 (after_side (after_flags text))) (Some Unclosed) (letter_cause (name_of (after_side (after_flags text))) (after_name (after_side (after_flags text)))))) e ∙ ap (λ v. cond v (Some Unclosed) (letter_cause (name_of (after_side (after_flags text))) (after_name (after_side (after_flags text))))) u))
    (λ u.
    let n = enclosed_parts 123 125 (after_side (after_flags text)) u in
    let parts : text ≡ flags_of text ++ (side_of (after_flags text) ++ (braced (name_of (after_side (after_flags text))) ++ after_name (after_side (after_flags text)))) =
    sym (flags_join text) ∙ ap (λ (t : List ℕ). flags_of text ++ t) (sym (side_join (after_flags text)) ∙ ap (λ (t : List ℕ). side_of (after_flags text) ++ t) n.parts) in
    fine_letter text (flags_of text) (side_of (after_flags text)) (name_of (after_side (after_flags text))) (after_name (after_side (after_flags text))) parts (not-false _ e) (side_is (after_flags text)) n.closed other
    (ap (λ v. cond v (Some BadFlags) (cond (is_unclosed 123 125 (after_side (after_flags text))) (Some Unclosed) (letter_cause (name_of (after_side (after_flags text))) (after_name (after_side (after_flags text)))))) e ∙ ap (λ v. cond v (Some Unclosed) (letter_cause (name_of (after_side (after_flags text))) (after_name (after_side (after_flags text))))) u)))

fine_percent : (text : List ℕ) → Fine (37 ∷ text) (on_percent text)
unfolding Fine
fine_percent [] = fine_directive [] refl
fine_percent (c ∷ text) = cond_both (eqb c 37) (found (37 ∷ 37 ∷ []) (Byte 37) text) (on_directive (c ∷ text)) (Fine (37 ∷ c ∷ text)) (λ e. (ap (λ (n : ℕ). 37 ∷ n ∷ text) (eqb-true c 37 e), percent refl refl)) (λ e. fine_directive (c ∷ text) e)

fine_escape : (c : ℕ) (text : List ℕ) (o : Option ℕ) → escaped c ≡ o → eqb c 110 ≡ false → Fine (92 ∷ c ∷ text) (on_escape c text o)
unfolding Fine
fine_escape c text None is other = (refl, backslash (rw (other, is) refl) refl refl)
fine_escape c text (Some b) is other = (refl, escape c b is refl refl)

fine_backslash : (text : List ℕ) → Fine (92 ∷ text) (on_backslash text)
unfolding Fine
fine_backslash [] = (refl, backslash refl refl refl)
fine_backslash (c ∷ text) = cond_both (eqb c 110) (Failed LineBreak) (on_escape c text (escaped c)) (Fine (92 ∷ c ∷ text)) (λ e. spelled_feed text (ap (λ (n : ℕ). 92 ∷ n ∷ text) (eqb-true c 110 e)) refl) (λ e. fine_escape c text (escaped c) refl e)

fine : (state : Apache) (b : ℕ) (text : List ℕ) → Fine (b ∷ text) (reading state (b ∷ text))
unfolding Fine
fine state b text =
    cond_both (eqb b 10) (Failed LineBreak) (cond (eqb b 92) (on_backslash text) (cond (eqb b 37) (on_percent text) (found (b ∷ []) (Byte b) text))) (Fine (b ∷ text))
    (λ e. line_feed text (ap (λ (n : ℕ). n ∷ text) (eqb-true b 10 e)) refl)
    (λ e10. cond_both (eqb b 92) (on_backslash text) (cond (eqb b 37) (on_percent text) (found (b ∷ []) (Byte b) text)) (Fine (b ∷ text))
    (λ e. subst (λ (n : ℕ). Fine (n ∷ text) (on_backslash text)) (sym (eqb-true b 92 e)) (fine_backslash text))
    (λ e92. cond_both (eqb b 37) (on_percent text) (found (b ∷ []) (Byte b) text) (Fine (b ∷ text))
    (λ e. subst (λ (n : ℕ). Fine (n ∷ text) (on_percent text)) (sym (eqb-true b 37 e)) (fine_percent text))
    (λ e37. (refl, plain b (rw (e10, e92, e37) refl) refl refl))))

pub all_fine : (state : Apache) (text : List ℕ) → 1 ≤ length text → Fine text (reading state text)
unfolding Fine
all_fine state [] some = absurd (omega arith)
all_fine state (b ∷ text) some = fine state b text
