-- Where no item stands, its cause is read.
use Rattle.std.proofs.Common.{◌≡◌, ℕ, ◌≤◌, Bool, true, false, cond, not, List, [], ◌∷◌, length, Option, Some, None, refl, sym, ap, subst, ◌∙◌, arith}
use Rattle.lf_spelling.specs.Enclosed.{is_unclosed}
use Rattle.lf_spelling.specs.Items.{Reading, Failed}
use Rattle.lf_spelling.specs.declared.fault.Cause.{Cause}
use Rattle.lf_spelling.specs.declared.fault.Cause.TheVariants.{BadFlags, Unclosed, BadName}
use Rattle.lf_spelling.specs.declared.item_reader.Given.TheVariants.{Slot}
use Rattle.apache_front.specs.declared.front.Apache.{Apache}
use Rattle.apache_front.specs.declared.table.Row.{Row}
use Rattle.apache_front.specs.Table.{row_of, takes}
use Rattle.apache_front.specs.Directive.{are_flags, Directive, spelling, slot_of, flags_of, after_flags, side_of, after_side, name_of, after_name, row_cause, letter_cause, cause_of}
use Rattle.apache_front.specs.Items.{HasFault, line_feed, spelled_feed, bad_directive}
use Rattle.apache_front.specs.Reading.{found, on_row, on_letter, on_directive, reading}
use Rattle.apache_front.specs.AgainLaws.{percent_other}

-- what a cause makes a reading say
said : Option Cause → Reading Apache → Reading Apache
said None read = read
said (Some cause) read = Failed cause

row_says : (d : Directive) (after : List ℕ) (row : Option Row) → on_row d after row ≡ said (row_cause d.name row) (on_row d after row)
unfolding said
row_says d after None = refl
row_says d after (Some row) = elim (takes row.names d.name) as (λ v. cond v (found (spelling d) (Slot (slot_of d row)) after) (Failed BadName) ≡ said (cond v None (Some BadName)) (cond v (found (spelling d) (Slot (slot_of d row)) after) (Failed BadName))) [ true ↦ refl | false ↦ refl ]

letter_says : (flags side : List ℕ) (name : Option (List ℕ)) (tail : List ℕ) → on_letter flags side name tail ≡ said (letter_cause name tail) (on_letter flags side name tail)
unfolding said
letter_says flags side name [] = refl
letter_says flags side name (letter ∷ after) = row_says (record { flags = flags; side = side; name = name; letter = letter }) after (row_of letter)

pub letter_fails : (flags side : List ℕ) (name : Option (List ℕ)) (tail : List ℕ) (cause : Cause) → letter_cause name tail ≡ Some cause → on_letter flags side name tail ≡ Failed cause
unfolding said
letter_fails flags side name tail cause is = letter_says flags side name tail ∙ ap (λ (o : Option Cause). said o (on_letter flags side name tail)) is

cut_says : (good shut : Bool) (read : Reading Apache) (cause : Option Cause) → read ≡ said cause read → cond (not good) (Failed BadFlags) (cond shut (Failed Unclosed) read) ≡ said (cond (not good) (Some BadFlags) (cond shut (Some Unclosed) cause)) (cond (not good) (Failed BadFlags) (cond shut (Failed Unclosed) read))
unfolding said
cut_says false shut read cause h = refl
cut_says true true read cause h = refl
cut_says true false read cause h = h

directive_fails : (text : List ℕ) (cause : Cause) → cause_of text ≡ Some cause → on_directive text ≡ Failed cause
unfolding said
directive_fails text cause is =
    cut_says (are_flags (flags_of text)) (is_unclosed 123 125 (after_side (after_flags text))) (on_letter (flags_of text) (side_of (after_flags text)) (name_of (after_side (after_flags text))) (after_name (after_side (after_flags text)))) (letter_cause (name_of (after_side (after_flags text))) (after_name (after_side (after_flags text)))) (letter_says (flags_of text) (side_of (after_flags text)) (name_of (after_side (after_flags text))) (after_name (after_side (after_flags text))))
    ∙ ap (λ (o : Option Cause). said o (on_directive text)) is

pub fails_again : (state : Apache) (text : List ℕ) (cause : Cause) → HasFault text cause → (1 ≤ length text) × (reading state text ≡ Failed cause)
fails_again state text cause (line_feed after is c) = subst (λ (t : List ℕ). (1 ≤ length t) × (reading state t ≡ Failed cause)) (sym is) (omega arith, ap (λ (x : Cause). Failed x) (sym c))
fails_again state text cause (spelled_feed after is c) = subst (λ (t : List ℕ). (1 ≤ length t) × (reading state t ≡ Failed cause)) (sym is) (omega arith, ap (λ (x : Cause). Failed x) (sym c))
fails_again state text cause (bad_directive after is other c) = subst (λ (t : List ℕ). (1 ≤ length t) × (reading state t ≡ Failed cause)) (sym is) (omega arith, percent_other after other ∙ directive_fails after cause c)
