-- What stands at the start of a text is read there.
use Rattle.std.proofs.Common.{◌≡◌, ℕ, ◌≤◌, true, false, cond, not, ◌&&◌, eqb, List, [], ◌∷◌, ◌++◌, length, Option, Some, refl, sym, ap, subst, ◌∙◌, append_assoc, arith}
use Rattle.std.specs.Prelude.{codes}
use Rattle.std.specs.List.{list_all}
use Rattle.std.specs.Str.{bytes_eq}
use Rattle.std.proofs.lemmas.Bool.{and_parts, not-true}
use Rattle.lf_spelling.specs.Runs.{run, past, stops}
use Rattle.lf_spelling.specs.RunLaws.{run_again, apart}
use Rattle.lf_spelling.specs.Texts.{is_nothing, begins_with}
use Rattle.lf_spelling.specs.Enclosed.{is_unclosed}
use Rattle.lf_spelling.specs.EnclosedLaws.{part_again}
use Rattle.lf_spelling.specs.Items.{Failed}
use Rattle.lf_spelling.specs.declared.fault.Cause.TheVariants.{LineBreak, BadFlags, Unclosed, BadName}
use Rattle.lf_spelling.specs.declared.item_reader.Given.{Given}
use Rattle.lf_spelling.specs.declared.item_reader.Given.TheVariants.{Nothing, Byte}
use Rattle.haproxy_front.specs.declared.flags.Flags.{Flags}
use Rattle.haproxy_front.specs.declared.table.Row.{Row}
use Rattle.haproxy_front.specs.Names.{is_alphanumeric}
use Rattle.haproxy_front.specs.NameLaws.{table_named}
use Rattle.haproxy_front.specs.Table.{row_of}
use Rattle.haproxy_front.specs.Slots.{slot_of, given_of}
use Rattle.haproxy_front.specs.Items.{is_plain, is_space, braced, spelling, AreChanges, changed_by, IsItem, plain, spaces, percent, change, value, flags_of, after_flags, are_good}
use Rattle.haproxy_front.specs.Reading.{found, on_row, on_name, on_named, on_item, on_percent, reading}
use Rattle.haproxy_front.specs.Parts.{changes_closed, no_percent, changes_good}

pub percent_other : (held : Flags) (text : List ℕ) → begins_with 37 text ≡ false → on_percent held text ≡ on_item held text
percent_other held [] hno = refl
percent_other held (c ∷ text) hno = ap (λ v. cond v (found (37 ∷ 37 ∷ []) (Byte 37) held text) (on_item held (c ∷ text))) hno

-- an item whose parts are these
pub by_parts : (held : Flags) (text : List ℕ) (flags : Option (List ℕ)) (rest : List ℕ) → is_unclosed 123 125 text ≡ false → flags_of text ≡ flags → after_flags text ≡ rest → are_good flags ≡ true → on_item held text ≡ on_named held (changed_by held flags) (37 ∷ braced flags) rest
by_parts held text flags rest shut flags_are rest_is good =
    ap (λ v. cond v (Failed Unclosed) (cond (not (are_good (flags_of text))) (Failed BadFlags) (on_named held (changed_by held (flags_of text)) (37 ∷ braced (flags_of text)) (after_flags text)))) shut
    ∙ ap (λ (f : Option (List ℕ)). cond (not (are_good f)) (Failed BadFlags) (on_named held (changed_by held f) (37 ∷ braced f) (after_flags text))) flags_are
    ∙ ap (λ v. cond (not v) (Failed BadFlags) (on_named held (changed_by held flags) (37 ∷ braced flags) (after_flags text))) good
    ∙ ap (on_named held (changed_by held flags) (37 ∷ braced flags)) rest_is

-- a name that the rest doesn't go on with
named_again : (held own : Flags) (front name after : List ℕ) → list_all is_alphanumeric name ≡ true → stops is_alphanumeric after ≡ true → on_named held own front (name ++ after) ≡ on_name held own (front ++ name) name after
named_again held own front name after all stop =
    let cut = run_again is_alphanumeric name after all stop in
    ap (λ (n : List ℕ). on_name held own (front ++ n) n (past is_alphanumeric (name ++ after))) cut.front_is ∙ ap (on_name held own (front ++ name) name) cut.back_is

item_again : (held : Flags) (flags : Option (List ℕ)) (name after : List ℕ) → AreChanges flags → is_nothing name ≡ false → list_all is_alphanumeric name ≡ true → stops is_alphanumeric after ≡ true
    → on_percent held ((braced flags ++ name) ++ after) ≡ on_name held (changed_by held flags) (spelling flags name) name after
item_again held flags [] after changes some all stop = absurd cc
item_again held flags (letter ∷ name) after changes some all stop =
    let is = (and_parts (is_alphanumeric letter) (list_all is_alphanumeric name) all).0 in
    let cut = part_again 123 125 flags (letter ∷ (name ++ after)) (changes_closed flags changes) (apart is_alphanumeric letter 123 is refl) in
    let text : List ℕ = braced flags ++ letter ∷ (name ++ after) in
    ap (on_percent held) (append_assoc (braced flags) (letter ∷ name) after) ∙ percent_other held text (no_percent flags letter (name ++ after) is)
    ∙ by_parts held text flags (letter ∷ (name ++ after)) cut.shut cut.part_is cut.rest_is (changes_good flags changes)
    ∙ named_again held (changed_by held flags) (37 ∷ braced flags) (letter ∷ name) after all stop

value_again : (held : Flags) (flags : Option (List ℕ)) (name : List ℕ) (row : Row) (after : List ℕ) → AreChanges flags → row_of name ≡ Some row → stops is_alphanumeric after ≡ true
    → on_percent held ((braced flags ++ name) ++ after) ≡ found (spelling flags name) (given_of row.sort (slot_of name row (changed_by held flags))) held after
value_again held flags name row after changes is stop =
    let n = table_named name row is in
    item_again held flags name after changes n.some n.letters stop
    ∙ ap (λ v. cond v (Failed BadName) (cond (bytes_eq name (codes "o")) (found (spelling flags name) Nothing (changed_by held flags) after) (on_row held (changed_by held flags) (spelling flags name) name after (row_of name)))) n.some
    ∙ ap (λ v. cond v (found (spelling flags name) Nothing (changed_by held flags) after) (on_row held (changed_by held flags) (spelling flags name) name after (row_of name))) n.no_change
    ∙ ap (on_row held (changed_by held flags) (spelling flags name) name after) is

spaces_again : (held : Flags) (more after : List ℕ) → list_all is_space more ≡ true → stops is_space after ≡ true → reading held (32 ∷ (more ++ after)) ≡ found (32 ∷ more) (Byte 32) held after
spaces_again held more after all stop =
    let cut = run_again is_space more after all stop in
    ap (λ (t : List ℕ). found (32 ∷ t) (Byte 32) held (past is_space (more ++ after))) cut.front_is ∙ ap (found (32 ∷ more) (Byte 32) held) cut.back_is

plain_again : (held : Flags) (b : ℕ) (after : List ℕ) → is_plain b ≡ true → reading held (b ∷ after) ≡ found (b ∷ []) (Byte b) held after
plain_again held b after h =
    let two = and_parts (not (eqb b 10) && not (eqb b 32)) (not (eqb b 37)) h in
    let one = and_parts (not (eqb b 10)) (not (eqb b 32)) two.0 in
    ap (λ v. cond v (Failed LineBreak) (cond (eqb b 32) (found (32 ∷ run is_space after) (Byte 32) held (past is_space after)) (cond (eqb b 37) (on_percent held after) (found (b ∷ []) (Byte b) held after)))) (not-true (eqb b 10) one.0)
    ∙ ap (λ v. cond v (found (32 ∷ run is_space after) (Byte 32) held (past is_space after)) (cond (eqb b 37) (on_percent held after) (found (b ∷ []) (Byte b) held after))) (not-true (eqb b 32) one.1)
    ∙ ap (λ v. cond v (on_percent held after) (found (b ∷ []) (Byte b) held after)) (not-true (eqb b 37) two.1)

at_all : (P : List ℕ → Given → Flags → Type 0) (a b : List ℕ) (g h : Given) (m n : Flags) → a ≡ b → g ≡ h → m ≡ n → P b h n → P a g m
at_all P a b g h m n e f k p = subst (λ (x : List ℕ). P x g m) (sym e) (subst (λ (x : Given). P b x m) (sym f) (subst (λ (x : Flags). P b h x) (sym k) p))

unfoldable pub Again : Flags → List ℕ → List ℕ → Given → Flags → Type 0
Again held after bytes given next = (1 ≤ length bytes) × (reading held (bytes ++ after) ≡ found bytes given next after)

pub again : (held : Flags) (bytes : List ℕ) (given : Given) (next : Flags) (after : List ℕ) → IsItem held bytes given next after → Again held after bytes given next
unfolding Again
again held bytes given next after (plain b h eb eg en) = at_all (Again held after) bytes (b ∷ []) given (Byte b) next held eb eg en (omega arith, plain_again held b after h)
again held bytes given next after (spaces more all stop eb eg en) = at_all (Again held after) bytes (32 ∷ more) given (Byte 32) next held eb eg en (omega arith, spaces_again held more after all stop)
again held bytes given next after (percent eb eg en) = at_all (Again held after) bytes (37 ∷ 37 ∷ []) given (Byte 37) next held eb eg en (omega arith, refl)
again held bytes given next after (change flags changes stop eb eg en) = at_all (Again held after) bytes (spelling flags (codes "o")) given Nothing next (changed_by held flags) eb eg en (omega arith, item_again held flags (codes "o") after changes refl refl stop)
again held bytes given next after (value flags name row changes is stop eb eg en) = at_all (Again held after) bytes (spelling flags name) given (given_of row.sort (slot_of name row (changed_by held flags))) next held eb eg en (omega arith, value_again held flags name row after changes is stop)
