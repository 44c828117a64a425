-- What stands at the start of a text is read there, and where no item stands, its cause is.
use Rattle.std.proofs.Common.{◌≡◌, ℕ, ◌≤◌, Bool, true, false, cond, not, eqb, List, [], ◌∷◌, ◌++◌, length, refl, sym, ap, subst, ◌∙◌, append_assoc, arith}
use Rattle.std.specs.List.{list_all}
use Rattle.std.proofs.lemmas.Bool.{and_parts, and_from, not-true, ne_eqb}
use Rattle.std.proofs.lemmas.List.{append-nil}
use Rattle.lf_spelling.specs.Runs.{run, past, stops}
use Rattle.lf_spelling.specs.RunLaws.{run_again}
use Rattle.lf_spelling.specs.ItemLaws.{at_both}
use Rattle.lf_spelling.specs.Items.{Failed}
use Rattle.lf_spelling.specs.declared.fault.Cause.{Cause}
use Rattle.lf_spelling.specs.declared.fault.Cause.TheVariants.{LineBreak, Unclosed, BadName}
use Rattle.lf_spelling.specs.declared.item_reader.Given.{Given}
use Rattle.lf_spelling.specs.declared.item_reader.Given.TheVariants.{Byte, Slot}
use Rattle.nginx_front.specs.declared.front.Nginx.{Nginx}
use Rattle.nginx_front.specs.Variables.{is_word, is_name, is_inside, spelling, braced_spelling, slot_of}
use Rattle.nginx_front.specs.Items.{begins_so, is_plain, IsItem, plain, bare, braced, HasFault, line_feed, unclosed, bad_braced, no_name}
use Rattle.nginx_front.specs.Reading.{found, on_name, on_bare, on_closed, on_braced, on_dollar, reading}

stops_so : (p : ℕ → Bool) (text : List ℕ) → begins_so p text ≡ false → stops p text ≡ true
stops_so p [] none = refl
stops_so p (b ∷ text) none = ap not none

name_all : (name : List ℕ) → is_name name ≡ true → list_all is_word name ≡ true
name_all [] h = absurd cc
name_all (b ∷ name) h = h

-- a byte of a name isn't a brace
word_inside : (b : ℕ) → is_word b ≡ true → (eqb b 123 ≡ false) × (eqb b 125 ≡ false)
word_inside b h = (
  ne_eqb b 123 (λ e. let same : true ≡ false = sym h ∙ ap is_word e in absurd (cc)),
  ne_eqb b 125 (λ e. let same : true ≡ false = sym h ∙ ap is_word e in absurd (cc)),
)

words_inside : (name : List ℕ) → list_all is_word name ≡ true → list_all is_inside name ≡ true
words_inside [] h = refl
words_inside (b ∷ name) h =
    let both = and_parts (is_word b) (list_all is_word name) h in
    and_from (is_inside b) (list_all is_inside name) (ap not (word_inside b both.0).1) (words_inside name both.1)

bare_cut : (state : Nginx) (text name after : List ℕ) → run is_word text ≡ name → past is_word text ≡ after → on_bare state text ≡ on_name state (spelling name) name after
bare_cut state text name after front back = ap (λ (n : List ℕ). on_name state (spelling n) n (past is_word text)) front ∙ ap (λ (t : List ℕ). on_name state (spelling name) name t) back

good_name : (state : Nginx) (bytes name after : List ℕ) → is_name name ≡ true → on_name state bytes name after ≡ found state bytes (Slot (slot_of state.escape name)) after
good_name state bytes name after good = ap (λ v. cond v (found state bytes (Slot (slot_of state.escape name)) after) (Failed BadName)) good

bad_name : (state : Nginx) (bytes name after : List ℕ) → is_name name ≡ false → on_name state bytes name after ≡ Failed BadName
bad_name state bytes name after bad = ap (λ v. cond v (found state bytes (Slot (slot_of state.escape name)) after) (Failed BadName)) bad

-- without an opening brace the name is bare
on_no_brace : (state : Nginx) (text : List ℕ) → begins_so (λ b. eqb b 123) text ≡ false → on_dollar state text ≡ on_bare state text
on_no_brace state [] none = refl
on_no_brace state (c ∷ text) none = ap (λ v. cond v (on_braced state text) (on_bare state (c ∷ text))) none

name_no_brace : (name after : List ℕ) → is_name name ≡ true → begins_so (λ b. eqb b 123) (name ++ after) ≡ false
name_no_brace [] after h = absurd cc
name_no_brace (b ∷ name) after h = (word_inside b (and_parts (is_word b) (list_all is_word name) h).0).0

bare_again : (state : Nginx) (name after : List ℕ) → is_name name ≡ true → begins_so is_word after ≡ false → on_dollar state (name ++ after) ≡ found state (spelling name) (Slot (slot_of state.escape name)) after
bare_again state name after good stop =
    let cut = run_again is_word name after (name_all name good) (stops_so is_word after stop) in
    on_no_brace state (name ++ after) (name_no_brace name after good) ∙ bare_cut state (name ++ after) name after cut.front_is cut.back_is ∙ good_name state (spelling name) name after good

closed_cut : (state : Nginx) (text name : List ℕ) (rest : List ℕ) → run is_inside text ≡ name → past is_inside text ≡ rest → on_braced state text ≡ on_closed state name rest
closed_cut state text name rest front back = ap (λ (n : List ℕ). on_closed state n (past is_inside text)) front ∙ ap (λ (t : List ℕ). on_closed state name t) back

closed_again : (state : Nginx) (name after : List ℕ) → list_all is_inside name ≡ true → reading state (braced_spelling name ++ after) ≡ on_name state (braced_spelling name) name after
closed_again state name after all =
    let cut = run_again is_inside name (125 ∷ after) all refl in
    ap (λ (t : List ℕ). on_braced state t) (append_assoc name (125 ∷ []) after) ∙ closed_cut state (name ++ 125 ∷ after) name (125 ∷ after) cut.front_is cut.back_is

open_again : (state : Nginx) (text : List ℕ) → list_all is_inside text ≡ true → on_braced state text ≡ Failed Unclosed
open_again state text all =
    let cut = run_again is_inside text [] all refl in
    ap (λ (t : List ℕ). on_braced state t) (sym (append-nil text)) ∙ closed_cut state (text ++ []) text [] cut.front_is cut.back_is

unfoldable pub Again : Nginx → List ℕ → List ℕ → Given → Type 0
Again state after bytes given = (1 ≤ length bytes) × (reading state (bytes ++ after) ≡ found state bytes given after)

plain_again : (state : Nginx) (b : ℕ) (after : List ℕ) → is_plain b ≡ true → reading state (b ∷ after) ≡ found state (b ∷ []) (Byte b) after
plain_again state b after h =
    let both = and_parts (not (eqb b 10)) (not (eqb b 36)) h in
    ap (λ v. cond v (Failed LineBreak) (cond (eqb b 36) (on_dollar state after) (found state (b ∷ []) (Byte b) after))) (not-true (eqb b 10) both.0)
    ∙ ap (λ v. cond v (on_dollar state after) (found state (b ∷ []) (Byte b) after)) (not-true (eqb b 36) both.1)

pub again : (state : Nginx) (bytes : List ℕ) (given : Given) (after : List ℕ) → IsItem state.escape bytes given after → Again state after bytes given
unfolding Again
again state bytes given after (plain b h eb eg) = at_both (Again state after) bytes (b ∷ []) given (Byte b) eb eg (omega arith, plain_again state b after h)
again state bytes given after (bare name good stop eb eg) = at_both (Again state after) bytes (spelling name) given (Slot (slot_of state.escape name)) eb eg (omega arith, bare_again state name after good stop)
again state bytes given after (braced name good eb eg) = at_both (Again state after) bytes (braced_spelling name) given (Slot (slot_of state.escape name)) eb eg (omega arith, closed_again state name after (words_inside name (name_all name good)) ∙ good_name state (braced_spelling name) name after good)

unfoldable pub Fails : Nginx → Cause → List ℕ → Type 0
Fails state cause text = (1 ≤ length text) × (reading state text ≡ Failed cause)

fails_at : (state : Nginx) (cause c : Cause) (text t : List ℕ) → text ≡ t → cause ≡ c → Fails state c t → Fails state cause text
fails_at state cause c text t e f h = subst (λ (x : List ℕ). Fails state cause x) (sym e) (subst (λ (x : Cause). Fails state x t) (sym f) h)

-- no name stands where no byte of a name does
no_run : (text : List ℕ) → begins_so is_word text ≡ false → run is_word text ≡ []
no_run [] none = refl
no_run (b ∷ text) none = ap (λ v. cond v (b ∷ run is_word text) []) none

pub fails_again : (state : Nginx) (text : List ℕ) (cause : Cause) → HasFault text cause → Fails state cause text
unfolding Fails
fails_again state text cause (line_feed after is c) = fails_at state cause LineBreak text (10 ∷ after) is c (omega arith, refl)
fails_again state text cause (unclosed after is all c) = fails_at state cause Unclosed text (36 ∷ 123 ∷ after) is c (omega arith, open_again state after all)
fails_again state text cause (bad_braced name after is all bad c) = fails_at state cause BadName text (braced_spelling name ++ after) is c (omega arith, closed_again state name after all ∙ bad_name state (braced_spelling name) name after bad)
fails_again state text cause (no_name after is none no_brace c) = fails_at state cause BadName text (36 ∷ after) is c (omega arith, on_no_brace state after no_brace ∙ bare_cut state after [] (past is_word after) (no_run after none) refl)
