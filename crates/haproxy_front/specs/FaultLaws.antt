-- Where no item stands, its cause is read.
use Rattle.std.proofs.Common.{◌≡◌, ℕ, ◌≤◌, Bool, true, false, cond, not, List, ◌∷◌, ◌++◌, length, Option, Some, None, refl, sym, ap, subst, ◌∙◌, arith}
use Rattle.std.specs.Prelude.{codes}
use Rattle.std.specs.Str.{bytes_eq}
use Rattle.lf_spelling.specs.Runs.{run, past}
use Rattle.lf_spelling.specs.Texts.{is_nothing}
use Rattle.lf_spelling.specs.Enclosed.{is_unclosed}
use Rattle.lf_spelling.specs.Items.{Reading, Failed}
use Rattle.lf_spelling.specs.declared.fault.Cause.{Cause}
use Rattle.lf_spelling.specs.declared.fault.Cause.TheVariants.{BadFlags, Unclosed, BadName}
use Rattle.lf_spelling.specs.declared.item_reader.Given.TheVariants.{Nothing}
use Rattle.haproxy_front.specs.declared.flags.Flags.{Flags}
use Rattle.haproxy_front.specs.declared.table.Row.{Row}
use Rattle.haproxy_front.specs.Names.{is_alphanumeric}
use Rattle.haproxy_front.specs.Table.{row_of}
use Rattle.haproxy_front.specs.Items.{braced, changed_by, flags_of, after_flags, are_good, row_cause, name_cause, cause_of, HasFault, line_feed, bad_item}
use Rattle.haproxy_front.specs.Reading.{found, on_row, on_name, on_named, on_item, reading}
use Rattle.haproxy_front.specs.AgainLaws.{percent_other}

-- what a cause makes a reading say
said : Option Cause → Reading Flags → Reading Flags
said None read = read
said (Some cause) read = Failed cause

row_says : (held own : Flags) (bytes name after : List ℕ) (row : Option Row) → on_row held own bytes name after row ≡ said (row_cause row) (on_row held own bytes name after row)
unfolding said
row_says held own bytes name after None = refl
row_says held own bytes name after (Some row) = refl

named_says : (none is_o : Bool) (o read : Reading Flags) (cause : Option Cause) → read ≡ said cause read
    → cond none (Failed BadName) (cond is_o o read) ≡ said (cond none (Some BadName) (cond is_o None cause)) (cond none (Failed BadName) (cond is_o o read))
unfolding said
named_says true is_o o read cause h = refl
named_says false true o read cause h = refl
named_says false false o read cause h = h

name_says : (held own : Flags) (bytes name after : List ℕ) → on_name held own bytes name after ≡ said (name_cause name) (on_name held own bytes name after)
name_says held own bytes name after = named_says (is_nothing name) (bytes_eq name (codes "o")) (found bytes Nothing own after) (on_row held own bytes name after (row_of name)) (row_cause (row_of name)) (row_says held own bytes name after (row_of name))

cut_says : (shut good : Bool) (read : Reading Flags) (cause : Option Cause) → read ≡ said cause read
    → cond shut (Failed Unclosed) (cond (not good) (Failed BadFlags) read) ≡ said (cond shut (Some Unclosed) (cond (not good) (Some BadFlags) cause)) (cond shut (Failed Unclosed) (cond (not good) (Failed BadFlags) read))
unfolding said
cut_says true good read cause h = refl
cut_says false false read cause h = refl
cut_says false true read cause h = h

item_fails : (held : Flags) (text : List ℕ) (cause : Cause) → cause_of text ≡ Some cause → on_item held text ≡ Failed cause
unfolding said
item_fails held text cause is =
    let name : List ℕ = run is_alphanumeric (after_flags text) in
    cut_says (is_unclosed 123 125 text) (are_good (flags_of text)) (on_named held (changed_by held (flags_of text)) (37 ∷ braced (flags_of text)) (after_flags text)) (name_cause (run is_alphanumeric (after_flags text)))
    (name_says held (changed_by held (flags_of text)) ((37 ∷ braced (flags_of text)) ++ run is_alphanumeric (after_flags text)) (run is_alphanumeric (after_flags text)) (past is_alphanumeric (after_flags text)))
    ∙ ap (λ (o : Option Cause). said o (on_item held text)) is

pub fails_again : (held : Flags) (text : List ℕ) (cause : Cause) → HasFault text cause → (1 ≤ length text) × (reading held text ≡ Failed cause)
fails_again held text cause (line_feed after is c) = subst (λ (t : List ℕ). (1 ≤ length t) × (reading held t ≡ Failed cause)) (sym is) (omega arith, ap (λ (x : Cause). Failed x) (sym c))
fails_again held text cause (bad_item after is other c) = subst (λ (t : List ℕ). (1 ≤ length t) × (reading held t ≡ Failed cause)) (sym is) (omega arith, percent_other held after other ∙ item_fails held after cause c)
