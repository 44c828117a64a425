-- What is read at the start of a text stands there, and what stands there is read.
use Rattle.std.proofs.Common.{◌≡◌, ℕ, ◌≤◌, Bool, true, false, cond, not, eqb, List, [], ◌∷◌, ◌++◌, length, drop, Result, Ok, Err, refl, sym, ap, subst, ◌∙◌, arith}
use Rattle.std.specs.Prelude.{nat_eq}
use Rattle.std.specs.List.{starts_with}
use Rattle.std.proofs.lemmas.Bool.{eqb-true, cond_both, and_parts, not-true}
use Rattle.std.proofs.lemmas.List.{append_cancel_left}
use Rattle.std.specs.Cmp.{unsigned_Decides}
use Rattle.std.proofs.lemmas.Slice.Eq.{starts_is}
use Rattle.lf_spelling.specs.Runs.{run, past}
use Rattle.lf_spelling.specs.RunLaws.{run_join}
use Rattle.lf_spelling.specs.Items.{Item, Reading, Found, Failed}
use Rattle.lf_spelling.specs.declared.fault.Cause.{Cause}
use Rattle.lf_spelling.specs.declared.fault.Cause.TheVariants.{LineBreak}
use Rattle.w3c_front.specs.declared.front.Fields.{Fields}
use Rattle.w3c_front.specs.declared.front.Place.{Place}
use Rattle.w3c_front.specs.declared.front.Place.TheVariants.{Start, First, Later}
use Rattle.w3c_front.specs.declared.table.Sort.{Sort}
use Rattle.w3c_front.specs.Identifier.{field_of}
use Rattle.w3c_front.specs.Items.{is_blank, is_inner, IsStretch, heading, has_heading, after_blanks, passed, IsItem, blanks, heads, field, HasFault, line_feed, bad_field}
use Rattle.w3c_front.specs.Reading.{on_field, reading}

-- ---- what is read stands there

-- the longest run at the start of a text
run_is : (p : ℕ → Bool) (b : ℕ) (text : List ℕ) → p b ≡ true → IsStretch p (run p (b ∷ text)) (past p (b ∷ text))
run_is p b text h = record {
  some = subst (λ v. 1 ≤ length (cond v (b ∷ run p text) [])) (sym h) (omega arith);
  longest = ap (run p) (run_join p (b ∷ text));
}

-- the reading says what is so of the text
unfoldable pub Fine : Fields → List ℕ → Reading Fields → Type 0
Fine state text (Found item after) = (text ≡ item.bytes ++ after) × IsItem state item after
Fine state text (Failed cause) = HasFault state text cause

-- a text that begins with another is that one and the rest
pub begins : (text front : List ℕ) → starts_with nat_eq text front ≡ true → text ≡ front ++ drop (length front) text
begins text front h = (starts_is unsigned_Decides text front (starts_with nat_eq text front) refl).0 h

pub fine_heading : (place : Place) (text : List ℕ) → has_heading place text ≡ true → (place ≡ Start) × (text ≡ heading ++ drop 8 text)
fine_heading Start text h = (refl, begins text heading h)
fine_heading First text h = absurd cc
fine_heading Later text h = absurd cc

fine_field : (state : Fields) (text name after : List ℕ) (found : Result Sort Cause) → text ≡ name ++ after → IsStretch is_inner name after → has_heading state.place text ≡ false → field_of state.language name ≡ found → Fine state text (on_field state name after found)
unfolding Fine
fine_field state text name after (Err cause) parts longest head is = bad_field name after parts longest head is
fine_field state text name after (Ok sort) parts longest head is = (parts, field name sort longest (ap (has_heading state.place) (sym parts) ∙ head) is refl)

inner_here : (b : ℕ) → is_blank b ≡ false → eqb b 10 ≡ false → is_inner b ≡ true
inner_here b blank feed = rw (blank, feed) refl

fine : (state : Fields) (b : ℕ) (text : List ℕ) → Fine state (b ∷ text) (reading state (b ∷ text))
unfolding Fine
fine state b text =
    let name : List ℕ = run is_inner (b ∷ text) in
    let after : List ℕ = past is_inner (b ∷ text) in
    let last : Reading Fields = on_field state (run is_inner (b ∷ text)) (past is_inner (b ∷ text)) (field_of state.language (run is_inner (b ∷ text))) in
    let head : Reading Fields = Found (passed state heading First) (drop 8 (b ∷ text)) in
    cond_both (is_blank b) (Found (passed state (run is_blank (b ∷ text)) (after_blanks state.place)) (past is_blank (b ∷ text)))
    (cond (eqb b 10) (Failed LineBreak) (cond (has_heading state.place (b ∷ text)) (Found (passed state heading First) (drop 8 (b ∷ text)))
    (on_field state (run is_inner (b ∷ text)) (past is_inner (b ∷ text)) (field_of state.language (run is_inner (b ∷ text)))))) (Fine state (b ∷ text))
    (λ e. (sym (run_join is_blank (b ∷ text)), blanks (run is_blank (b ∷ text)) (run_is is_blank b text e) refl))
    (λ blank. cond_both (eqb b 10) (Failed LineBreak) (cond (has_heading state.place (b ∷ text)) (Found (passed state heading First) (drop 8 (b ∷ text)))
    (on_field state (run is_inner (b ∷ text)) (past is_inner (b ∷ text)) (field_of state.language (run is_inner (b ∷ text))))) (Fine state (b ∷ text))
    (λ e. line_feed text (ap (λ (n : ℕ). n ∷ text) (eqb-true b 10 e)) refl)
    (λ feed. cond_both (has_heading state.place (b ∷ text)) (Found (passed state heading First) (drop 8 (b ∷ text)))
    (on_field state (run is_inner (b ∷ text)) (past is_inner (b ∷ text)) (field_of state.language (run is_inner (b ∷ text)))) (Fine state (b ∷ text))
    (λ e. let h = fine_heading state.place (b ∷ text) e in (h.1, heads h.0 refl))
    (λ e. fine_field state (b ∷ text) (run is_inner (b ∷ text)) (past is_inner (b ∷ text)) (field_of state.language (run is_inner (b ∷ text))) (sym (run_join is_inner (b ∷ text))) (run_is is_inner b text (inner_here b blank feed)) e refl)))

pub all_fine : (state : Fields) (text : List ℕ) → 1 ≤ length text → Fine state text (reading state text)
unfolding Fine
all_fine state [] some = absurd (omega arith)
all_fine state (b ∷ text) some = fine state b text

-- ---- what stands there is read

-- the first byte of a run passes, and the run ends where it should
record Parts (p : ℕ → Bool) (b : ℕ) (bytes after : List ℕ) : Type 0 where
  first : p b ≡ true
  front : run p (b ∷ (bytes ++ after)) ≡ b ∷ bytes
  back : past p (b ∷ (bytes ++ after)) ≡ after

some_first : (p : ℕ → Bool) (b : ℕ) (text bytes : List ℕ) → run p (b ∷ text) ≡ b ∷ bytes → p b ≡ true
some_first p b text bytes = cond_both (p b) (b ∷ run p text) [] (λ (t : List ℕ). t ≡ b ∷ bytes → p b ≡ true) (λ e h. e) (λ e h. absurd cc)

run_parts : (p : ℕ → Bool) (b : ℕ) (bytes after : List ℕ) → run p (b ∷ (bytes ++ after)) ≡ b ∷ bytes → Parts p b bytes after
run_parts p b bytes after longest = record {
  first = some_first p b (bytes ++ after) bytes longest;
  front = longest;
  back = append_cancel_left (b ∷ bytes) (past p (b ∷ (bytes ++ after))) after (ap (λ (t : List ℕ). t ++ past p (b ∷ (bytes ++ after))) (sym longest) ∙ run_join p (b ∷ (bytes ++ after)));
}

-- a reading of a text that begins with the item's bytes
unfoldable pub Again : Fields → Item Fields → List ℕ → Type 0
Again state item after = (1 ≤ length item.bytes) × (reading state (item.bytes ++ after) ≡ Found item after)

blanks_again : (state : Fields) (bytes after : List ℕ) → 1 ≤ length bytes → run is_blank (bytes ++ after) ≡ bytes → reading state (bytes ++ after) ≡ Found (passed state bytes (after_blanks state.place)) after
blanks_again state [] after some longest = absurd (omega arith)
blanks_again state (b ∷ bytes) after some longest =
    let parts = run_parts is_blank b bytes after longest in
    let text : List ℕ = bytes ++ after in
    ap (λ v. cond v (Found (passed state (run is_blank (b ∷ (bytes ++ after))) (after_blanks state.place)) (past is_blank (b ∷ (bytes ++ after))))
    (cond (eqb b 10) (Failed LineBreak) (cond (has_heading state.place (b ∷ (bytes ++ after))) (Found (passed state heading First) (drop 8 (b ∷ (bytes ++ after))))
    (on_field state (run is_inner (b ∷ (bytes ++ after))) (past is_inner (b ∷ (bytes ++ after))) (field_of state.language (run is_inner (b ∷ (bytes ++ after)))))))) parts.first
    ∙ ap (λ (t : List ℕ). Found (passed state t (after_blanks state.place)) (past is_blank (b ∷ (bytes ++ after)))) parts.front
    ∙ ap (λ (t : List ℕ). Found (passed state (b ∷ bytes) (after_blanks state.place)) t) parts.back

heading_again : (state : Fields) (after : List ℕ) → state.place ≡ Start → reading state (heading ++ after) ≡ Found (passed state heading First) after
heading_again state after is =
    ap (λ (place : Place). cond (has_heading place (heading ++ after)) (Found (passed state heading First) after)
    (on_field state (run is_inner (heading ++ after)) (past is_inner (heading ++ after)) (field_of state.language (run is_inner (heading ++ after))))) is

inner_parts : (b : ℕ) → is_inner b ≡ true → (is_blank b ≡ false) × (eqb b 10 ≡ false)
inner_parts b h = let both = and_parts (not (is_blank b)) (not (eqb b 10)) h in (not-true (is_blank b) both.0, not-true (eqb b 10) both.1)

-- a text that begins with an identifier
identifier_again : (state : Fields) (name after : List ℕ) → IsStretch is_inner name after → has_heading state.place (name ++ after) ≡ false → reading state (name ++ after) ≡ on_field state name after (field_of state.language name)
identifier_again state [] after h head = absurd (let some = h.some in omega (arith, some))
identifier_again state (b ∷ name) after h head =
    let parts = run_parts is_inner b name after h.longest in
    let other = inner_parts b parts.first in
    ap (λ v. cond v (Found (passed state (run is_blank (b ∷ (name ++ after))) (after_blanks state.place)) (past is_blank (b ∷ (name ++ after))))
    (cond (eqb b 10) (Failed LineBreak) (cond (has_heading state.place (b ∷ (name ++ after))) (Found (passed state heading First) (drop 8 (b ∷ (name ++ after))))
    (on_field state (run is_inner (b ∷ (name ++ after))) (past is_inner (b ∷ (name ++ after))) (field_of state.language (run is_inner (b ∷ (name ++ after)))))))) other.0
    ∙ ap (λ v. cond v (Failed LineBreak) (cond (has_heading state.place (b ∷ (name ++ after))) (Found (passed state heading First) (drop 8 (b ∷ (name ++ after))))
    (on_field state (run is_inner (b ∷ (name ++ after))) (past is_inner (b ∷ (name ++ after))) (field_of state.language (run is_inner (b ∷ (name ++ after))))))) other.1
    ∙ ap (λ v. cond v (Found (passed state heading First) (drop 8 (b ∷ (name ++ after))))
    (on_field state (run is_inner (b ∷ (name ++ after))) (past is_inner (b ∷ (name ++ after))) (field_of state.language (run is_inner (b ∷ (name ++ after)))))) head
    ∙ ap (λ (t : List ℕ). on_field state t (past is_inner (b ∷ (name ++ after))) (field_of state.language t)) parts.front
    ∙ ap (λ (t : List ℕ). on_field state (b ∷ name) t (field_of state.language (b ∷ name))) parts.back

pub again : (state : Fields) (item : Item Fields) (after : List ℕ) → IsItem state item after → Again state item after
unfolding Again
again state item after (blanks bytes h e) = subst (λ (x : Item Fields). Again state x after) (sym e) (h.some, blanks_again state bytes after h.some h.longest)
again state item after (heads is e) = subst (λ (x : Item Fields). Again state x after) (sym e) (omega arith, heading_again state after is)
again state item after (field name sort h head is e) = subst (λ (x : Item Fields). Again state x after) (sym e) (h.some, identifier_again state name after h head ∙ ap (on_field state name after) is)

pub fails_again : (state : Fields) (text : List ℕ) (cause : Cause) → HasFault state text cause → (1 ≤ length text) × (reading state text ≡ Failed cause)
fails_again state text cause (line_feed after is c) = subst (λ (t : List ℕ). (1 ≤ length t) × (reading state t ≡ Failed cause)) (sym is) (omega arith, ap (λ (x : Cause). Failed x) (sym c))
fails_again state text cause (bad_field name after parts h head is) =
    subst (λ (t : List ℕ). (1 ≤ length t) × (reading state t ≡ Failed cause)) (sym parts) (long name after h.some, identifier_again state name after h (ap (has_heading state.place) (sym parts) ∙ head) ∙ ap (on_field state name after) is)
  where
    long : (a b : List ℕ) → 1 ≤ length a → 1 ≤ length (a ++ b)
    long [] b h = absurd (omega (arith, h))
    long (x ∷ a) b h = omega arith
