-- What is read at the start of a text is so.
use Rattle.std.proofs.Common.{◌≡◌, ℕ, ◌≤◌, true, false, cond, not, eqb, List, [], ◌∷◌, ◌++◌, length, Option, Some, None, refl, sym, ap, subst, ◌∙◌, append_assoc, arith}
use Rattle.std.specs.Prelude.{codes}
use Rattle.std.specs.Str.{bytes_eq}
use Rattle.std.proofs.lemmas.Bool.{eqb-true, cond_both, not-false}
use Rattle.std.proofs.lemmas.Slice.Eq.{bytes_eq-Decides}
use Rattle.lf_spelling.specs.Runs.{run, past, stops}
use Rattle.lf_spelling.specs.RunLaws.{run_join, run_all}
use Rattle.lf_spelling.specs.Texts.{is_nothing, begins_with}
use Rattle.lf_spelling.specs.Enclosed.{is_unclosed}
use Rattle.lf_spelling.specs.EnclosedLaws.{enclosed_parts}
use Rattle.lf_spelling.specs.Items.{Reading, Found, Failed}
use Rattle.lf_spelling.specs.declared.fault.Cause.TheVariants.{LineBreak, BadFlags, Unclosed, BadName}
use Rattle.lf_spelling.specs.declared.item_reader.Given.TheVariants.{Nothing, Byte}
use Rattle.haproxy_front.specs.declared.flags.Flags.{Flags}
use Rattle.haproxy_front.specs.declared.table.Row.{Row}
use Rattle.haproxy_front.specs.Names.{is_alphanumeric}
use Rattle.haproxy_front.specs.Table.{row_of}
use Rattle.haproxy_front.specs.Items.{is_space, braced, spelling, AreChanges, changed_by, IsItem, plain, spaces, percent, change, value, flags_of, after_flags, are_good, row_cause, name_cause, cause_of, HasFault, line_feed, bad_item}
use Rattle.haproxy_front.specs.Reading.{found, on_row, on_name, on_named, on_item, on_percent, reading}
use Rattle.haproxy_front.specs.Parts.{past_stops, good_changes}

-- the reading says what is so of the text
unfoldable pub Fine : Flags → List ℕ → Reading Flags → Type 0
Fine held text (Found item after) = (text ≡ item.bytes ++ after) × IsItem held item.bytes item.given item.state after
Fine held text (Failed cause) = HasFault text cause

-- what has been read of an item: the flags in braces, its name, and the rest
record Along (text : List ℕ) (flags : Option (List ℕ)) (name after : List ℕ) : Type 0 where
  parts : text ≡ braced flags ++ (name ++ after)
  changes : AreChanges flags
  stop : stops is_alphanumeric after ≡ true
  other : begins_with 37 text ≡ false

along_parts : (text : List ℕ) (flags : Option (List ℕ)) (name after : List ℕ) → Along text flags name after → 37 ∷ text ≡ spelling flags name ++ after
along_parts text flags name after a = ap (λ (t : List ℕ). 37 ∷ t) (a.parts ∙ sym (append_assoc (braced flags) name after))

fine_row : (held : Flags) (text : List ℕ) (flags : Option (List ℕ)) (name after : List ℕ) (row : Option Row) → Along text flags name after → row_of name ≡ row → cause_of text ≡ row_cause row
    → Fine held (37 ∷ text) (on_row held (changed_by held flags) (spelling flags name) name after row)
unfolding Fine
fine_row held text flags name after None a is cause = bad_item text refl a.other cause
fine_row held text flags name after (Some row) a is cause = (along_parts text flags name after a, value flags name row a.changes is a.stop refl refl refl)

fine_name : (held : Flags) (text : List ℕ) (flags : Option (List ℕ)) (name after : List ℕ) → Along text flags name after → cause_of text ≡ name_cause name → Fine held (37 ∷ text) (on_name held (changed_by held flags) (spelling flags name) name after)
unfolding Fine
fine_name held text flags name after a cause =
    cond_both (is_nothing name) (Failed BadName) (cond (bytes_eq name (codes "o")) (found (spelling flags name) Nothing (changed_by held flags) after) (on_row held (changed_by held flags) (spelling flags name) name after (row_of name))) (Fine held (37 ∷ text))
    (λ e. bad_item text refl a.other (cause ∙ ap (λ v. cond v (Some BadName) (cond (bytes_eq name (codes "o")) None (row_cause (row_of name)))) e))
    (λ e. cond_both (bytes_eq name (codes "o")) (found (spelling flags name) Nothing (changed_by held flags) after) (on_row held (changed_by held flags) (spelling flags name) name after (row_of name)) (Fine held (37 ∷ text))
    (λ o. (along_parts text flags name after a, change flags a.changes a.stop (ap (spelling flags) ((bytes_eq-Decides name (codes "o")).0 o)) refl refl))
    (λ o. fine_row held text flags name after (row_of name) a refl
    (cause ∙ ap (λ v. cond v (Some BadName) (cond (bytes_eq name (codes "o")) None (row_cause (row_of name)))) e ∙ ap (λ v. cond v None (row_cause (row_of name))) o)))

fine_item : (held : Flags) (text : List ℕ) → begins_with 37 text ≡ false → Fine held (37 ∷ text) (on_item held text)
unfolding Fine
fine_item held text other =
    let named : List ℕ = run is_alphanumeric (after_flags text) in
    cond_both (is_unclosed 123 125 text) (Failed Unclosed) (cond (not (are_good (flags_of text))) (Failed BadFlags) (on_named held (changed_by held (flags_of text)) (37 ∷ braced (flags_of text)) (after_flags text))) (Fine held (37 ∷ text))
    (λ u. bad_item text refl other (ap (λ v. cond v (Some Unclosed) (cond (not (are_good (flags_of text))) (Some BadFlags) (name_cause (run is_alphanumeric (after_flags text))))) u))
    (λ u. cond_both (not (are_good (flags_of text))) (Failed BadFlags) (on_named held (changed_by held (flags_of text)) (37 ∷ braced (flags_of text)) (after_flags text)) (Fine held (37 ∷ text))
    (λ e. bad_item text refl other (ap (λ v. cond v (Some Unclosed) (cond (not (are_good (flags_of text))) (Some BadFlags) (name_cause (run is_alphanumeric (after_flags text))))) u ∙ ap (λ v. cond v (Some BadFlags) (name_cause (run is_alphanumeric (after_flags text)))) e))
    (λ e. fine_name held text (flags_of text) (run is_alphanumeric (after_flags text)) (past is_alphanumeric (after_flags text))
    (record {
      parts = (enclosed_parts 123 125 text u).parts ∙ ap (λ (t : List ℕ). braced (flags_of text) ++ t) (sym (run_join is_alphanumeric (after_flags text)));
      changes = good_changes (flags_of text) (not-false (are_good (flags_of text)) e);
      stop = past_stops is_alphanumeric (after_flags text);
      other = other;
    })
    (ap (λ v. cond v (Some Unclosed) (cond (not (are_good (flags_of text))) (Some BadFlags) (name_cause (run is_alphanumeric (after_flags text))))) u ∙ ap (λ v. cond v (Some BadFlags) (name_cause (run is_alphanumeric (after_flags text)))) e)))

fine_percent : (held : Flags) (text : List ℕ) → Fine held (37 ∷ text) (on_percent held text)
unfolding Fine
fine_percent held [] = fine_item held [] refl
fine_percent held (c ∷ text) = cond_both (eqb c 37) (found (37 ∷ 37 ∷ []) (Byte 37) held text) (on_item held (c ∷ text)) (Fine held (37 ∷ c ∷ text)) (λ e. (ap (λ (n : ℕ). 37 ∷ n ∷ text) (eqb-true c 37 e), percent refl refl refl)) (λ e. fine_item held (c ∷ text) e)

fine_spaces : (held : Flags) (text : List ℕ) → Fine held (32 ∷ text) (found (32 ∷ run is_space text) (Byte 32) held (past is_space text))
unfolding Fine
fine_spaces held text = (ap (λ (t : List ℕ). 32 ∷ t) (sym (run_join is_space text)), spaces (run is_space text) (run_all is_space text) (past_stops is_space text) refl refl refl)

fine : (held : Flags) (b : ℕ) (text : List ℕ) → Fine held (b ∷ text) (reading held (b ∷ text))
unfolding Fine
fine held b text =
    cond_both (eqb b 10) (Failed LineBreak) (cond (eqb b 32) (found (32 ∷ run is_space text) (Byte 32) held (past is_space text)) (cond (eqb b 37) (on_percent held text) (found (b ∷ []) (Byte b) held text))) (Fine held (b ∷ text))
    (λ e. line_feed text (ap (λ (n : ℕ). n ∷ text) (eqb-true b 10 e)) refl)
    (λ e10. cond_both (eqb b 32) (found (32 ∷ run is_space text) (Byte 32) held (past is_space text)) (cond (eqb b 37) (on_percent held text) (found (b ∷ []) (Byte b) held text)) (Fine held (b ∷ text))
    (λ e. subst (λ (n : ℕ). Fine held (n ∷ text) (found (32 ∷ run is_space text) (Byte 32) held (past is_space text))) (sym (eqb-true b 32 e)) (fine_spaces held text))
    (λ e32. cond_both (eqb b 37) (on_percent held text) (found (b ∷ []) (Byte b) held text) (Fine held (b ∷ text))
    (λ e. subst (λ (n : ℕ). Fine held (n ∷ text) (on_percent held text)) (sym (eqb-true b 37 e)) (fine_percent held text))
    (λ e37. (refl, plain b (rw (e10, e32, e37) refl) refl refl refl))))

pub all_fine : (held : Flags) (text : List ℕ) → 1 ≤ length text → Fine held text (reading held text)
unfolding Fine
all_fine held [] some = absurd (omega arith)
all_fine held (b ∷ text) some = fine held b text
