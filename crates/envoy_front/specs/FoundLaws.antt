-- What is read at the start of a text is so.
use Rattle.std.proofs.Common.{◌≡◌, ℕ, ◌≤◌, false, cond, eqb, List, [], ◌∷◌, ◌++◌, length, Option, Some, None, refl, sym, ap, subst, ◌∙◌, append_assoc, arith}
use Rattle.std.proofs.lemmas.Bool.{eqb-true, cond_both}
use Rattle.lf_spelling.specs.Items.{Reading, Found, Failed}
use Rattle.lf_spelling.specs.RunLaws.{run_all}
use Rattle.lf_spelling.specs.Texts.{begins_with}
use Rattle.lf_spelling.specs.Enclosed.{enclosed}
use Rattle.lf_spelling.specs.EnclosedLaws.{enclosed_parts}
use Rattle.lf_spelling.specs.declared.fault.Cause.{Cause}
use Rattle.lf_spelling.specs.declared.fault.Cause.TheVariants.{LineBreak}
use Rattle.lf_spelling.specs.declared.item_reader.Given.TheVariants.{Byte, Slot}
use Rattle.envoy_front.specs.declared.front.Envoy.{Envoy}
use Rattle.envoy_front.specs.declared.table.Sort.{Sort}
use Rattle.envoy_front.specs.Table.{sort_of}
use Rattle.envoy_front.specs.Command.{is_upper, counted, spelling, slot_of, name_of, after_name, argument_of, after_argument, length_of, tail_cause, sort_cause}
use Rattle.envoy_front.specs.Items.{IsItem, plain, percent, command, HasFault, line_feed, bad_command}
use Rattle.envoy_front.specs.Reading.{found, command_in, after_command, unless, on_sort, on_command, on_percent, reading}
use Rattle.envoy_front.specs.Parts.{length_parts, good_tail, text_parts}

-- the reading says what is so of the text
unfoldable pub Fine : List ℕ → Reading Envoy → Type 0
Fine text (Found item after) = (text ≡ item.bytes ++ after) × IsItem item.bytes item.given
Fine text (Failed cause) = HasFault text cause

fine_tail : (text : List ℕ) (sort : Sort) (cause : Option Cause) → begins_with 37 text ≡ false → sort_of (name_of text) ≡ Some sort → tail_cause sort (after_name text) ≡ cause
    → Fine (37 ∷ text) (unless cause (found (spelling (command_in text)) (Slot (slot_of (command_in text) sort)) (after_command text)))
unfolding Fine
fine_tail text sort (Some cause) other is e = bad_command text refl other (ap (λ o. sort_cause o (after_name text)) is ∙ e)
fine_tail text sort None other is e =
    let good = good_tail sort (after_name text) e in
    let whole : name_of text ++ (enclosed 40 41 (argument_of (after_name text)) ++ (counted (length_of (after_argument (after_name text))) ++ 37 ∷ after_command text))
    ≡ (name_of text ++ (enclosed 40 41 (argument_of (after_name text)) ++ (counted (length_of (after_argument (after_name text))) ++ 37 ∷ []))) ++ after_command text = sym (simp append_assoc) in
    let parts : 37 ∷ text ≡ spelling (command_in text) ++ after_command text = ap (λ (t : List ℕ). 37 ∷ t) (text_parts sort text good ∙ whole) in
    (parts, command (command_in text) sort (record { named = run_all is_upper text; sort_is = is; closed = (enclosed_parts 40 41 (after_name text) good.closed).closed; taken = good.taken; digits = (length_parts (after_argument (after_name text))).digits; sized = good.sized }) refl refl)

fine_sort : (text : List ℕ) (sort : Option Sort) → begins_with 37 text ≡ false → sort_of (name_of text) ≡ sort → Fine (37 ∷ text) (on_sort text sort)
unfolding Fine
fine_sort text None other is = bad_command text refl other (ap (λ o. sort_cause o (after_name text)) is)
fine_sort text (Some sort) other is = fine_tail text sort (tail_cause sort (after_name text)) other is refl

fine_percent : (text : List ℕ) → Fine (37 ∷ text) (on_percent text)
unfolding Fine
fine_percent [] = fine_sort [] (sort_of (name_of [])) refl refl
fine_percent (c ∷ text) = cond_both (eqb c 37) (found (37 ∷ 37 ∷ []) (Byte 37) text) (on_command (c ∷ text)) (Fine (37 ∷ c ∷ text))
    (λ e. (ap (λ (n : ℕ). 37 ∷ n ∷ text) (eqb-true c 37 e), percent refl refl))
    (λ e. fine_sort (c ∷ text) (sort_of (name_of (c ∷ text))) e refl)

fine : (state : Envoy) (b : ℕ) (text : List ℕ) → Fine (b ∷ text) (reading state (b ∷ text))
unfolding Fine
fine state b text =
    cond_both (eqb b 10) (Failed LineBreak) (cond (eqb b 37) (on_percent text) (found (b ∷ []) (Byte b) text)) (Fine (b ∷ text))
    (λ e. line_feed text (ap (λ (n : ℕ). n ∷ text) (eqb-true b 10 e)) refl)
    (λ e10. cond_both (eqb b 37) (on_percent text) (found (b ∷ []) (Byte b) text) (Fine (b ∷ text))
    (λ e. subst (λ (n : ℕ). Fine (n ∷ text) (on_percent text)) (sym (eqb-true b 37 e)) (fine_percent text))
    (λ e37. (refl, plain b (rw (e10, e37) refl) refl refl)))

pub all_fine : (state : Envoy) (text : List ℕ) → 1 ≤ length text → Fine text (reading state text)
unfolding Fine
all_fine state [] some = absurd (omega arith)
all_fine state (b ∷ text) some = fine state b text
