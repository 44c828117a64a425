-- An item that is taken apart by lengths.
use Rattle.std.proofs.Common.{◌≡◌, ℕ, ◌≤◌, ◌+◌, true, false, cond, not, eqb, List, [], ◌∷◌, ◌++◌, length, take, drop, Option, Some, None, Result, Ok, refl, sym, ap, subst, ◌∙◌, append_assoc, length-append, arith}
use Rattle.std.specs.Prelude.{codes}
use Rattle.std.specs.List.{prefix_len}
use Rattle.std.specs.Str.{bytes_eq}
use Rattle.std.proofs.lemmas.List.{take_at, drop_at}
use Rattle.lf_spelling.specs.Runs.{run, past}
use Rattle.lf_spelling.specs.RunLaws.{run_join, run_len}
use Rattle.lf_spelling.specs.Texts.{is_nothing}
use Rattle.lf_spelling.specs.Enclosed.{is_unclosed, IsPart}
use Rattle.lf_spelling.specs.EnclosedLaws.{enclosed_parts}
use Rattle.lf_spelling.specs.Items.{Reading, Failed}
use Rattle.lf_spelling.specs.ItemReaders.{GivesItem}
use Rattle.lf_spelling.specs.declared.fault.Cause.TheVariants.{BadName, UnknownName, Unclosed, BadFlags}
use Rattle.lf_spelling.specs.declared.fault.ItemFault.{ItemFault}
use Rattle.lf_spelling.specs.declared.item_reader.Taken.{Taken}
use Rattle.lf_spelling.specs.declared.item_reader.Given.{Given}
use Rattle.lf_spelling.specs.declared.item_reader.Given.TheVariants.{Nothing, Byte}
use Rattle.haproxy_front.specs.declared.flags.Flags.{Flags}
use Rattle.haproxy_front.specs.declared.table.Row.{Row}
use Rattle.haproxy_front.specs.Flags.{are_flags, changed}
use Rattle.haproxy_front.specs.Names.{is_alphanumeric}
use Rattle.haproxy_front.specs.Table.{row_of}
use Rattle.haproxy_front.specs.Slots.{slot_of, given_of}
use Rattle.haproxy_front.specs.Items.{is_space, braced, changed_by, flags_of, after_flags, are_good}
use Rattle.haproxy_front.specs.Reading.{found, on_row, on_name, on_named, on_item}
use Rattle.haproxy_front.specs.AgainLaws.{by_parts}
use Rattle.haproxy_front.proofs.Changes.{no_outcome, some_outcome}

-- ---- a name

-- the answers to a name, with its emptiness and whether it is `o` told
by_name : (held own : Flags) (front text name : List ℕ) → name ≡ run is_alphanumeric text → on_named held own front text ≡ on_name held own (front ++ name) name (past is_alphanumeric text)
by_name held own front text name is = ap (λ (n : List ℕ). on_name held own (front ++ n) n (past is_alphanumeric text)) (sym is)

pub no_name : (held own : Flags) (front text name : List ℕ) → name ≡ run is_alphanumeric text → name ≡ [] → on_named held own front text ≡ Failed BadName
no_name held own front text name is none = by_name held own front text name is ∙ ap (λ (n : List ℕ). on_name held own (front ++ n) n (past is_alphanumeric text)) none

some_name : (held own : Flags) (front text name : List ℕ) → name ≡ run is_alphanumeric text → is_nothing name ≡ false
    → on_named held own front text ≡ cond (bytes_eq name (codes "o")) (found (front ++ name) Nothing own (past is_alphanumeric text)) (on_row held own (front ++ name) name (past is_alphanumeric text) (row_of name))
some_name held own front text name is some =
    by_name held own front text name is
    ∙ ap (λ v. cond v (Failed BadName) (cond (bytes_eq name (codes "o")) (found (front ++ name) Nothing own (past is_alphanumeric text)) (on_row held own (front ++ name) name (past is_alphanumeric text) (row_of name)))) some

rowed : (held own : Flags) (front text name : List ℕ) (row : Option Row) → name ≡ run is_alphanumeric text → is_nothing name ≡ false → bytes_eq name (codes "o") ≡ false → row ≡ row_of name
    → on_named held own front text ≡ on_row held own (front ++ name) name (past is_alphanumeric text) row
rowed held own front text name row is some no_change row_is =
    some_name held own front text name is some
    ∙ ap (λ v. cond v (found (front ++ name) Nothing own (past is_alphanumeric text)) (on_row held own (front ++ name) name (past is_alphanumeric text) (row_of name))) no_change
    ∙ ap (on_row held own (front ++ name) name (past is_alphanumeric text)) (sym row_is)

pub unknown : (held own : Flags) (front text name : List ℕ) → name ≡ run is_alphanumeric text → is_nothing name ≡ false → bytes_eq name (codes "o") ≡ false → None ≡ row_of name → on_named held own front text ≡ Failed UnknownName
unknown held own front text name is some no_change row_is = rowed held own front text name None is some no_change row_is

-- an item of so many bytes
given_by : (r : Reading Flags) (next : Flags) (front text name : List ℕ) (taken : Taken) → name ≡ run is_alphanumeric text → taken.len ≡ length front + length name
    → r ≡ found (front ++ name) taken.given next (past is_alphanumeric text) → GivesItem r next (front ++ text) (Ok taken)
given_by r next front text name taken name_is len_is read =
    let parts : front ++ text ≡ (front ++ name) ++ past is_alphanumeric text =
    ap (λ (t : List ℕ). front ++ t) (sym (run_join is_alphanumeric text) ∙ ap (λ (t : List ℕ). t ++ past is_alphanumeric text) (sym name_is)) ∙ sym (append_assoc front name (past is_alphanumeric text)) in
    let long : length (front ++ name) ≡ taken.len = omega (arith, len_is, length-append front name) in
    let short : taken.len ≤ length (front ++ text) = omega (arith, long, ap length parts, length-append (front ++ name) (past is_alphanumeric text)) in
    let bytes : take taken.len (front ++ text) ≡ front ++ name = ap (take taken.len) parts ∙ take_at (front ++ name) (past is_alphanumeric text) taken.len long in
    let rest : drop taken.len (front ++ text) ≡ past is_alphanumeric text = ap (drop taken.len) parts ∙ drop_at (front ++ name) (past is_alphanumeric text) taken.len long in
    (short, read ∙ ap (λ (t : List ℕ). found t taken.given next (past is_alphanumeric text)) (sym bytes) ∙ ap (λ (t : List ℕ). found (take taken.len (front ++ text)) taken.given next t) (sym rest))

pub gives_change : (held own : Flags) (front text name : List ℕ) (taken : Taken) → name ≡ run is_alphanumeric text → is_nothing name ≡ false → bytes_eq name (codes "o") ≡ true
    → taken.len ≡ length front + length name → taken.given ≡ Nothing → GivesItem (on_named held own front text) own (front ++ text) (Ok taken)
gives_change held own front text name taken name_is some is_change len_is given_is =
    given_by (on_named held own front text) own front text name taken name_is len_is
    (some_name held own front text name name_is some
    ∙ ap (λ v. cond v (found (front ++ name) Nothing own (past is_alphanumeric text)) (on_row held own (front ++ name) name (past is_alphanumeric text) (row_of name))) is_change
    ∙ ap (λ (g : Given). found (front ++ name) g own (past is_alphanumeric text)) (sym given_is))

pub gives_value : (held own : Flags) (front text name : List ℕ) (row : Row) (taken : Taken) → name ≡ run is_alphanumeric text → is_nothing name ≡ false → bytes_eq name (codes "o") ≡ false
    → Some row ≡ row_of name → taken.len ≡ length front + length name → taken.given ≡ given_of row.sort (slot_of name row own) → GivesItem (on_named held own front text) held (front ++ text) (Ok taken)
gives_value held own front text name row taken name_is some no_change row_is len_is given_is =
    given_by (on_named held own front text) held front text name taken name_is len_is
    (rowed held own front text name (Some row) name_is some no_change row_is ∙ ap (λ (g : Given). found (front ++ name) g held (past is_alphanumeric text)) (sym given_is))

pub name_fits : (text name : List ℕ) → name ≡ run is_alphanumeric text → length name ≤ length text
name_fits text name is = omega (arith, ap length is, ap length (run_join is_alphanumeric text), length-append (run is_alphanumeric text) (past is_alphanumeric text))

pub some_bytes : (name : List ℕ) → eqb (length name) 0 ≡ false → is_nothing name ≡ false
some_bytes [] h = absurd cc
some_bytes (b ∷ name) h = refl

-- ---- what follows a percent sign

pub unclosed : (held : Flags) (text : List ℕ) → is_unclosed 123 125 text ≡ true → on_item held text ≡ Failed Unclosed
unclosed held text shut = ap (λ v. cond v (Failed Unclosed) (cond (not (are_good (flags_of text))) (Failed BadFlags) (on_named held (changed_by held (flags_of text)) (37 ∷ braced (flags_of text)) (after_flags text)))) shut

pub no_changes : (held : Flags) (text : List ℕ) (flags : Option (List ℕ)) (rest : List ℕ) → IsPart 123 125 text flags rest → are_good flags ≡ false → on_item held text ≡ Failed BadFlags
no_changes held text flags rest part bad =
    ap (λ v. cond v (Failed Unclosed) (cond (not (are_good (flags_of text))) (Failed BadFlags) (on_named held (changed_by held (flags_of text)) (37 ∷ braced (flags_of text)) (after_flags text)))) part.shut
    ∙ ap (λ v. cond (not v) (Failed BadFlags) (on_named held (changed_by held (flags_of text)) (37 ∷ braced (flags_of text)) (after_flags text))) (ap are_good part.part_is ∙ bad)

pub with_flags : (held : Flags) (text : List ℕ) (flags : Option (List ℕ)) (rest : List ℕ) → IsPart 123 125 text flags rest → are_good flags ≡ true → on_item held text ≡ on_named held (changed_by held flags) (37 ∷ braced flags) rest
with_flags held text flags rest part good = by_parts held text flags rest part.shut part.part_is part.rest_is good

pub braced_parts : (text : List ℕ) (flags : Option (List ℕ)) (rest : List ℕ) → IsPart 123 125 text flags rest → 37 ∷ text ≡ (37 ∷ braced flags) ++ rest
braced_parts text flags rest part =
    ap (λ (t : List ℕ). 37 ∷ t) ((enclosed_parts 123 125 text part.shut).parts ∙ ap (λ (f : Option (List ℕ)). braced f ++ after_flags text) part.part_is ∙ ap (λ (t : List ℕ). braced flags ++ t) part.rest_is)

pub braced_length : (changes : List ℕ) (n : ℕ) → n ≡ length changes → 3 + n ≡ length (37 ∷ braced (Some changes))
braced_length changes n is = omega (arith, is, length-append changes (125 ∷ []))

-- what is told of the name is told of the item
pub told : (a b : Reading Flags) (next : Flags) (text whole : List ℕ) (result : Result Taken ItemFault) → a ≡ b → text ≡ whole → GivesItem b next whole result → GivesItem a next text result
told a b next text whole result same is h = subst (λ (r : Reading Flags). GivesItem r next text result) (sym same) (subst (λ (t : List ℕ). GivesItem b next t result) (sym is) h)

-- an item without flags in braces
pub plain_item : (held : Flags) (text rest : List ℕ) (part : Option (List ℕ)) (next : Flags) (result : Result Taken ItemFault) → IsPart 123 125 text part rest → part ≡ None
    → ((front : List ℕ) → 1 ≡ length front → GivesItem (on_named held held front rest) next (front ++ rest) result) → GivesItem (on_item held text) next (37 ∷ text) result
plain_item held text rest part next result is none named =
    let p = subst (λ (o : Option (List ℕ)). IsPart 123 125 text o rest) none is in
    told (on_item held text) (on_named held held (37 ∷ []) rest) next (37 ∷ text) (37 ∷ rest) result (with_flags held text None rest p refl) (braced_parts text None rest p) (named (37 ∷ []) refl)

pub bad_item : (held : Flags) (text rest changes : List ℕ) (part : Option (List ℕ)) → IsPart 123 125 text part rest → part ≡ Some changes → cond (are_flags changes) (Some (changed held changes)) None ≡ None → on_item held text ≡ Failed BadFlags
bad_item held text rest changes part is some none =
    no_changes held text (Some changes) rest (subst (λ (o : Option (List ℕ)). IsPart 123 125 text o rest) some is) (no_outcome (are_flags changes) (changed held changes) none)

pub flags_fit : (text rest changes : List ℕ) (part : Option (List ℕ)) → IsPart 123 125 text part rest → part ≡ Some changes → 3 + length changes + length rest ≡ 1 + length text
flags_fit text rest changes part is some =
    let p = subst (λ (o : Option (List ℕ)). IsPart 123 125 text o rest) some is in
    omega (arith, ap length (braced_parts text (Some changes) rest p), length-append (37 ∷ braced (Some changes)) rest, length-append changes (125 ∷ []))

-- an item with flags in braces
pub flagged_item : (held own : Flags) (text rest changes : List ℕ) (part : Option (List ℕ)) (next : Flags) (result : Result Taken ItemFault) → IsPart 123 125 text part rest → part ≡ Some changes → cond (are_flags changes) (Some (changed held changes)) None ≡ Some own
    → ((front : List ℕ) → 3 + length changes ≡ length front → GivesItem (on_named held own front rest) next (front ++ rest) result) → GivesItem (on_item held text) next (37 ∷ text) result
flagged_item held own text rest changes part next result is some own_is named =
    let p = subst (λ (o : Option (List ℕ)). IsPart 123 125 text o rest) some is in
    let good = some_outcome (are_flags changes) (changed held changes) own own_is in
    told (on_item held text) (on_named held own (37 ∷ braced (Some changes)) rest) next (37 ∷ text) ((37 ∷ braced (Some changes)) ++ rest) result
    (with_flags held text (Some changes) rest p good.0 ∙ ap (λ (f : Flags). on_named held f (37 ∷ braced (Some changes)) rest) good.1)
    (braced_parts text (Some changes) rest p) (named (37 ∷ braced (Some changes)) (braced_length changes (length changes) refl))

-- ---- spaces

pub spaces_taken : (held : Flags) (text : List ℕ) (n : ℕ) (taken : Taken) → n ≡ prefix_len is_space text → taken.len ≡ 1 + n → taken.given ≡ Byte 32 → GivesItem (found (32 ∷ run is_space text) (Byte 32) held (past is_space text)) held (32 ∷ text) (Ok taken)
spaces_taken held text n taken n_is len_is given_is =
    let spaced : length (32 ∷ run is_space text) ≡ taken.len = omega (arith, len_is, n_is, run_len is_space text) in
    let parts : 32 ∷ text ≡ (32 ∷ run is_space text) ++ past is_space text = ap (λ (t : List ℕ). 32 ∷ t) (sym (run_join is_space text)) in
    let bytes : take taken.len (32 ∷ text) ≡ 32 ∷ run is_space text = ap (take taken.len) parts ∙ take_at (32 ∷ run is_space text) (past is_space text) taken.len spaced in
    let rest : drop taken.len (32 ∷ text) ≡ past is_space text = ap (drop taken.len) parts ∙ drop_at (32 ∷ run is_space text) (past is_space text) taken.len spaced in
    (omega (arith, spaced, ap length parts, length-append (32 ∷ run is_space text) (past is_space text)), ap (λ (t : List ℕ). found t (Byte 32) held (past is_space text)) (sym bytes) ∙ ap (λ (g : Given). found (take taken.len (32 ∷ text)) g held (past is_space text)) (sym given_is) ∙ ap (λ (t : List ℕ). found (take taken.len (32 ∷ text)) taken.given held t) (sym rest))
