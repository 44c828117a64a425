-- What is read at the start of a text is so.
use Rattle.std.proofs.Common.{◌≡◌, ℕ, ◌≤◌, Bool, true, false, cond, eqb, List, [], ◌∷◌, ◌++◌, length, refl, sym, ap, subst, ◌∙◌, append_assoc, arith}
use Rattle.std.specs.List.{list_all}
use Rattle.std.proofs.lemmas.Bool.{eqb-true, cond_both, not-false}
use Rattle.std.proofs.lemmas.List.{append-nil}
use Rattle.lf_spelling.specs.Runs.{run, past}
use Rattle.lf_spelling.specs.RunLaws.{run_join, run_all, past_stop}
use Rattle.lf_spelling.specs.Items.{Reading, Found, Failed}
use Rattle.lf_spelling.specs.declared.fault.Cause.TheVariants.{LineBreak, BadName}
use Rattle.lf_spelling.specs.declared.item_reader.Given.TheVariants.{Byte, Slot}
use Rattle.nginx_front.specs.declared.front.Nginx.{Nginx}
use Rattle.nginx_front.specs.Variables.{is_word, is_name, is_inside, spelling, braced_spelling, slot_of}
use Rattle.nginx_front.specs.Items.{begins_so, plain, bare, braced, HasFault, line_feed, unclosed, bad_braced, no_name}
use Rattle.nginx_front.specs.Reading.{found, on_bare, on_closed, on_braced, on_dollar, reading, StandsAs}

-- the reading says what is so of the text
unfoldable pub Fine : Nginx → List ℕ → Reading Nginx → Type 0
Fine state text (Found item after) = (text ≡ item.bytes ++ after) × StandsAs state item after
Fine state text (Failed cause) = HasFault text cause

-- what follows the longest run doesn't begin with a byte of it
past_stops : (p : ℕ → Bool) (text rest : List ℕ) → past p text ≡ rest → begins_so p rest ≡ false
past_stops p text [] is = refl
past_stops p text (c ∷ more) is = past_stop p text c more is

run_named : (text name : List ℕ) → run is_word text ≡ name → is_name name ≡ false → begins_so is_word text ≡ false
run_named [] name is none = refl
run_named (b ∷ text) name is none = cond_both (is_word b) (b ∷ run is_word text) [] (λ t. t ≡ name → is_word b ≡ false)
    (λ e k.
    let all : is_name (b ∷ run is_word text) ≡ true = rw e (run_all is_word text) in
    let same : is_name (b ∷ run is_word text) ≡ false = ap is_name k ∙ none in
    absurd (cc))
    (λ e k. e) is

fine_bare : (state : Nginx) (text : List ℕ) → begins_so (λ b. eqb b 123) text ≡ false → Fine state (36 ∷ text) (on_bare state text)
unfolding Fine
fine_bare state text other =
    cond_both (is_name (run is_word text)) (found state (spelling (run is_word text)) (Slot (slot_of state.escape (run is_word text))) (past is_word text)) (Failed BadName) (Fine state (36 ∷ text))
    (λ e. (ap (λ (t : List ℕ). 36 ∷ t) (sym (run_join is_word text)), record { is = bare (run is_word text) e (past_stops is_word text (past is_word text) refl) refl refl; same = refl }))
    (λ e. no_name text refl (run_named text (run is_word text) refl e) other refl)

pub closed_parts : (text : List ℕ) (b : ℕ) (after : List ℕ) → past is_inside text ≡ b ∷ after → 36 ∷ 123 ∷ text ≡ braced_spelling (run is_inside text) ++ after
closed_parts text b after is =
    let brace : b ≡ 125 = eqb-true b 125 (not-false (eqb b 125) (past_stop is_inside text b after is)) in
    let parts : text ≡ run is_inside text ++ 125 ∷ after = sym (run_join is_inside text) ∙ ap (λ (t : List ℕ). run is_inside text ++ t) (is ∙ ap (λ (n : ℕ). n ∷ after) brace) in
    ap (λ (t : List ℕ). 36 ∷ 123 ∷ t) (parts ∙ sym (append_assoc (run is_inside text) (125 ∷ []) after))

fine_closed : (state : Nginx) (text rest : List ℕ) → past is_inside text ≡ rest → Fine state (36 ∷ 123 ∷ text) (on_closed state (run is_inside text) rest)
unfolding Fine
fine_closed state text [] is =
    let whole : run is_inside text ≡ text = sym (append-nil (run is_inside text)) ∙ ap (λ (t : List ℕ). run is_inside text ++ t) (sym is) ∙ run_join is_inside text in
    unclosed text refl (subst (λ (t : List ℕ). list_all is_inside t ≡ true) whole (run_all is_inside text)) refl
fine_closed state text (b ∷ after) is =
    cond_both (is_name (run is_inside text)) (found state (braced_spelling (run is_inside text)) (Slot (slot_of state.escape (run is_inside text))) after) (Failed BadName) (Fine state (36 ∷ 123 ∷ text))
    (λ e. (closed_parts text b after is, record { is = braced (run is_inside text) e refl refl; same = refl }))
    (λ e. bad_braced (run is_inside text) after (closed_parts text b after is) (run_all is_inside text) e refl)

fine_dollar : (state : Nginx) (text : List ℕ) → Fine state (36 ∷ text) (on_dollar state text)
unfolding Fine
fine_dollar state [] = fine_bare state [] refl
fine_dollar state (c ∷ text) = cond_both (eqb c 123) (on_braced state text) (on_bare state (c ∷ text)) (Fine state (36 ∷ c ∷ text))
    (λ e. subst (λ (n : ℕ). Fine state (36 ∷ n ∷ text) (on_braced state text)) (sym (eqb-true c 123 e)) (fine_closed state text (past is_inside text) refl))
    (λ e. fine_bare state (c ∷ text) e)

fine : (state : Nginx) (b : ℕ) (text : List ℕ) → Fine state (b ∷ text) (reading state (b ∷ text))
unfolding Fine
fine state b text =
    cond_both (eqb b 10) (Failed LineBreak) (cond (eqb b 36) (on_dollar state text) (found state (b ∷ []) (Byte b) text)) (Fine state (b ∷ text))
    (λ e. line_feed text (ap (λ (n : ℕ). n ∷ text) (eqb-true b 10 e)) refl)
    (λ e10. cond_both (eqb b 36) (on_dollar state text) (found state (b ∷ []) (Byte b) text) (Fine state (b ∷ text))
    (λ e. subst (λ (n : ℕ). Fine state (n ∷ text) (on_dollar state text)) (sym (eqb-true b 36 e)) (fine_dollar state text))
    (λ e36. (refl, record { is = plain b (rw (e10, e36) refl) refl refl; same = refl })))

pub all_fine : (state : Nginx) (text : List ℕ) → 1 ≤ length text → Fine state text (reading state text)
unfolding Fine
all_fine state [] some = absurd (omega arith)
all_fine state (b ∷ text) some = fine state b text
