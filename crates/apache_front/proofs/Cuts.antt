-- A directive that is taken apart by lengths.
use Rattle.std.proofs.Common.{◌≡◌, ℕ, ◌≤◌, ◌+◌, ◌-◌, Bool, true, false, cond, not, eqb, List, [], ◌∷◌, ◌++◌, length, take, drop, Option, Some, Result, Ok, Err, sym, ap, subst, ◌∙◌, append_assoc, length-append, arith}
use Rattle.std.specs.List.{prefix_len}
use Rattle.std.proofs.Math.Dec.{eqb-suc-zero}
use Rattle.std.proofs.lemmas.List.{take_at, drop_at}
use Rattle.lf_spelling.specs.Items.{Failed}
use Rattle.lf_spelling.specs.declared.fault.Cause.TheVariants.{BadFlags, Unclosed}
use Rattle.lf_spelling.specs.declared.fault.ItemFault.{ItemFault}
use Rattle.lf_spelling.specs.declared.fault.ItemFault.TheVariants as fault
use Rattle.lf_spelling.specs.declared.item_reader.Taken.{Taken}
use Rattle.lf_spelling.specs.declared.item_reader.Given.{Given}
use Rattle.lf_spelling.specs.declared.item_reader.Given.TheVariants.{Slot}
use Rattle.lf_format.specs.declared.slot.Absent.{Absent}
use Rattle.lf_format.specs.declared.slot.Absent.TheVariants.{Dash}
use Rattle.apache_front.specs.declared.table.Row.{Row}
use Rattle.apache_front.specs.Table.{row_of}
use Rattle.lf_spelling.specs.Runs.{run}
use Rattle.apache_front.specs.Directive.{is_flag, are_flags, Directive, braced, spelling, row_slot, slot_of, absence, flags_of, after_flags, side_of, after_side, name_of, after_name}
use Rattle.apache_front.specs.Reading.{found, on_letter, on_directive, Gives, GivesLetter}
use Rattle.lf_spelling.specs.RunLaws.{run_len}
use Rattle.lf_spelling.specs.Enclosed.{is_unclosed, IsPart}
use Rattle.lf_spelling.specs.EnclosedLaws.{enclosed_parts}
use Rattle.apache_front.specs.Parts.{flags_join, side_join}
use Rattle.apache_front.specs.Letters.{letter_low}
use Rattle.apache_front.specs.AgainLaws.{good_row}
use Rattle.apache_front.specs.FaultLaws.{letter_fails}
use Rattle.std.specs.Str.{IsUtf8}
use Rattle.lf_spelling.specs.Cuts.{EndsText}
use Rattle.lf_spelling.specs.TextLaws.{text_between, text_after}

pub flags_taken : (text : List ℕ) (n : ℕ) → n ≡ length (flags_of text) → (take n text ≡ flags_of text) × (drop n text ≡ after_flags text) × (n ≤ length text)
flags_taken text n is =
    (ap (take n) (sym (flags_join text)) ∙ take_at (flags_of text) (after_flags text) n (sym is), ap (drop n) (sym (flags_join text)) ∙ drop_at (flags_of text) (after_flags text) n (sym is), omega (arith, is, ap length (flags_join text), length-append (flags_of text) (after_flags text)))

pub side_taken : (text : List ℕ) (n : ℕ) → n ≡ length (side_of text) → (drop n text ≡ after_side text) × (n ≤ length text)
side_taken text n is =
    (ap (drop n) (sym (side_join text)) ∙ drop_at (side_of text) (after_side text) n (sym is), omega (arith, is, ap length (side_join text), length-append (side_of text) (after_side text)))

pub flags_bang : (text : List ℕ) (b : ℕ) (rest : List ℕ) → text ≡ b ∷ rest → b ≡ 33 → 1 + prefix_len is_flag rest ≡ length (flags_of text)
flags_bang text b rest is bang =
    let same : length (flags_of text) ≡ length (flags_of (33 ∷ rest)) = ap (λ (t : List ℕ). length (flags_of t)) (is ∙ ap (λ (n : ℕ). n ∷ rest) bang) in
    omega (arith, same, run_len is_flag rest)

pub flags_plain : (text : List ℕ) (b : ℕ) (rest : List ℕ) → text ≡ b ∷ rest → eqb b 33 ≡ false → prefix_len is_flag text ≡ length (flags_of text)
flags_plain text b rest is other =
    let e : flags_of (b ∷ rest) ≡ run is_flag (b ∷ rest) = ap (λ v. cond v (b ∷ run is_flag rest) (run is_flag (b ∷ rest))) other in
    ap (prefix_len is_flag) is ∙ run_len is_flag (b ∷ rest) ∙ ap length (sym e) ∙ ap (λ (t : List ℕ). length (flags_of t)) (sym is)

pub bad_flags : (text : List ℕ) → are_flags (flags_of text) ≡ false → on_directive text ≡ Failed BadFlags
bad_flags text bad = ap (λ v. cond (not v) (Failed BadFlags) (cond (is_unclosed 123 125 (after_side (after_flags text))) (Failed Unclosed) (on_letter (flags_of text) (side_of (after_flags text)) (name_of (after_side (after_flags text))) (after_name (after_side (after_flags text)))))) bad

good_flags : (text named_text : List ℕ) → are_flags (flags_of text) ≡ true → after_side (after_flags text) ≡ named_text → on_directive text ≡ cond (is_unclosed 123 125 named_text) (Failed Unclosed) (on_letter (flags_of text) (side_of (after_flags text)) (name_of named_text) (after_name named_text))
good_flags text named_text good is =
    ap (λ v. cond (not v) (Failed BadFlags) (cond (is_unclosed 123 125 (after_side (after_flags text))) (Failed Unclosed) (on_letter (flags_of text) (side_of (after_flags text)) (name_of (after_side (after_flags text))) (after_name (after_side (after_flags text)))))) good
    ∙ ap (λ (t : List ℕ). cond (is_unclosed 123 125 t) (Failed Unclosed) (on_letter (flags_of text) (side_of (after_flags text)) (name_of t) (after_name t))) is

-- the name's brace is left open
pub left_open : (text named_text : List ℕ) → are_flags (flags_of text) ≡ true → after_side (after_flags text) ≡ named_text → is_unclosed 123 125 named_text ≡ true → on_directive text ≡ Failed Unclosed
left_open text named_text good is shut = good_flags text named_text good is ∙ ap (λ v. cond v (Failed Unclosed) (on_letter (flags_of text) (side_of (after_flags text)) (name_of named_text) (after_name named_text))) shut

-- the letter follows the name, or stands where none is
pub at_letter : (text named_text : List ℕ) (name : Option (List ℕ)) (tail : List ℕ) → are_flags (flags_of text) ≡ true → after_side (after_flags text) ≡ named_text → IsPart 123 125 named_text name tail → on_directive text ≡ on_letter (flags_of text) (side_of (after_flags text)) name tail
at_letter text named_text name tail good is part =
    good_flags text named_text good is
    ∙ ap (λ v. cond v (Failed Unclosed) (on_letter (flags_of text) (side_of (after_flags text)) (name_of named_text) (after_name named_text))) part.shut
    ∙ ap (λ (n : Option (List ℕ)). on_letter (flags_of text) (side_of (after_flags text)) n (after_name named_text)) part.part_is
    ∙ ap (λ (t : List ℕ). on_letter (flags_of text) (side_of (after_flags text)) name t) part.rest_is

pub parts : (text named_text : List ℕ) (name : Option (List ℕ)) (tail : List ℕ) → after_side (after_flags text) ≡ named_text → IsPart 123 125 named_text name tail → text ≡ flags_of text ++ (side_of (after_flags text) ++ (braced name ++ tail))
parts text named_text name tail is part =
    let here : named_text ≡ braced name ++ tail = (enclosed_parts 123 125 named_text part.shut).parts ∙ ap (λ (n : Option (List ℕ)). braced n ++ after_name named_text) part.part_is ∙ ap (λ (t : List ℕ). braced name ++ t) part.rest_is in
    sym (flags_join text) ∙ ap (λ (t : List ℕ). flags_of text ++ t) (sym (side_join (after_flags text)) ∙ ap (λ (t : List ℕ). side_of (after_flags text) ++ t) (is ∙ here))

same_absence : (flags : List ℕ) (has_flags : Bool) (absent : Absent) → has_flags ≡ not (eqb (length flags) 0) → cond has_flags Dash absent ≡ absence flags absent
same_absence [] has_flags absent h = ap (λ v. cond v Dash absent) h
same_absence (b ∷ flags) has_flags absent h = ap (λ v. cond v Dash absent) (h ∙ ap not (eqb-suc-zero (length flags)))

-- what the letter gives is what the directive gives
pub gives : (text flags side : List ℕ) (name : Option (List ℕ)) (tail : List ℕ) (has_flags : Bool) (result : Result Taken ItemFault) → text ≡ flags ++ (side ++ (braced name ++ tail)) → on_directive text ≡ on_letter flags side name tail → has_flags ≡ not (eqb (length flags) 0)
    → GivesLetter text has_flags name tail result → Gives (on_directive text) (37 ∷ text) result
gives text flags side name tail has_flags (Err fault.OutOfMemory) whole read has h = tt
gives text flags side name tail has_flags (Err (fault.Fault cause)) whole read has h = read ∙ letter_fails flags side name tail cause h
gives text flags side name tail has_flags (Ok taken) whole read has h =
    let letter = h.0 in
    let after = h.1 in
    let row = h.2 in
    let d : Directive = record { flags = flags; side = side; name = name; letter = letter } in
    let body : List ℕ = flags ++ (side ++ (braced name ++ letter ∷ [])) in
    let cut : text ≡ (flags ++ (side ++ (braced name ++ letter ∷ []))) ++ after = whole ∙ ap (λ (t : List ℕ). flags ++ (side ++ (braced name ++ t))) h.3 ∙ sym (simp append_assoc) in
    let long : length text ≡ length body + length after = ap length cut ∙ length-append body after in
    let len : length body ≡ length text - length after = omega (arith, long) in
    let spelled_len : length (spelling d) ≡ taken.len = omega (arith, long, h.6) in
    let name_is : take (length text - length after) text ≡ body = ap (take (length text - length after)) cut ∙ take_at body after (length text - length after) len in
    let given : taken.given ≡ Slot (slot_of d row) = h.7
    ∙ ap (λ (n : List ℕ). Slot (row_slot (37 ∷ n) row (cond has_flags Dash row.absent))) name_is
    ∙ ap (λ (a : Absent). Slot (row_slot (spelling d) row a)) (same_absence flags has_flags row.absent has) in
    let whole_cut : 37 ∷ text ≡ spelling d ++ after = ap (λ (t : List ℕ). 37 ∷ t) cut in
    let front : take taken.len (37 ∷ text) ≡ spelling d = ap (take taken.len) whole_cut ∙ take_at (spelling d) after taken.len spelled_len in
    let back : drop taken.len (37 ∷ text) ≡ after = ap (drop taken.len) whole_cut ∙ drop_at (spelling d) after taken.len spelled_len in
    let there : on_directive text ≡ found (spelling d) (Slot (slot_of d row)) after = read ∙ ap (on_letter flags side name) h.3 ∙ good_row d after row h.4 h.5 in
    (omega (arith, h.6), there ∙ ap (λ (t : List ℕ). found t (Slot (slot_of d row)) after) (sym front) ∙ ap (λ (g : Given). found (take taken.len (37 ∷ text)) g after) (sym given) ∙ ap (λ (t : List ℕ). found (take taken.len (37 ∷ text)) taken.given t) (sym back))

-- the tail is the last part of the text
pub tail_last : (text a b c tail : List ℕ) → text ≡ a ++ (b ++ (c ++ tail)) → (front : List ℕ) × (text ≡ front ++ tail)
tail_last text a b c tail is = (a ++ (b ++ c), is ∙ sym (simp append_assoc))

-- what follows the percent sign of a directive is text
pub directive_text : (text tail : List ℕ) (letter : ℕ) (after : List ℕ) (row : Row) (last : (front : List ℕ) × (text ≡ front ++ tail)) → EndsText (37 ∷ text) → tail ≡ letter ∷ after → row_of letter ≡ Some row → (n : ℕ) → n ≡ length text - length after → IsUtf8 (take n text)
directive_text text tail letter after row last ends is row_is n n_is =
    let cut : text ≡ last.0 ++ letter ∷ after = last.1 ∙ ap (λ (t : List ℕ). last.0 ++ t) is in
    let parts : text ≡ (last.0 ++ letter ∷ []) ++ after = cut ∙ sym (append_assoc last.0 (letter ∷ []) after) in
    let len : length (last.0 ++ letter ∷ []) ≡ n = omega (arith, n_is, ap length parts, length-append (last.0 ++ letter ∷ []) after) in
    let taken : take n text ≡ last.0 ++ letter ∷ [] = ap (take n) parts ∙ take_at (last.0 ++ letter ∷ []) after n len in
    let whole : IsUtf8 (ends.0 ++ 37 ∷ (last.0 ++ letter ∷ after)) = subst (λ (t : List ℕ). IsUtf8 (ends.0 ++ 37 ∷ t)) cut ends.1 in
    text_after 37 (take n text) (subst (λ (t : List ℕ). IsUtf8 (37 ∷ t)) (sym taken) (text_between ends.0 37 last.0 letter after whole (omega arith) (letter_low letter row row_is))) (omega arith)
