-- What the code takes off the start of a text is what the reading finds there.
use Rattle.std.proofs.Common.{◌≡◌, ℕ, ◌≤◌, ◌+◌, true, false, cond, eqb, List, ◌∷◌, length, take, drop, None, Ok, Err, refl, sym, ap, subst, ◌∙◌, length-append, arith}
use Rattle.std.specs.List.{prefix_len}
use Rattle.std.proofs.lemmas.List.{take_at}
use Rattle.lf_spelling.specs.Runs.{run, past}
use Rattle.lf_spelling.specs.Enclosed.{is_not}
use Rattle.lf_spelling.specs.RunLaws.{run_taken}
use Rattle.lf_spelling.specs.Items.{Found, Failed}
use Rattle.lf_spelling.specs.ItemReaders.{GivesItem}
use Rattle.lf_spelling.specs.declared.fault.Cause.TheVariants.{LineBreak}
use Rattle.lf_spelling.specs.declared.fault.ItemFault.{ItemFault}
use Rattle.lf_spelling.specs.declared.fault.ItemFault.TheVariants as fault
use Rattle.lf_spelling.specs.declared.item_reader.Given.{Given}
use Rattle.lf_format.specs.declared.slot.Slot.{Slot}
use Rattle.w3c_front.specs.declared.front.Fields.{Fields}
use Rattle.w3c_front.specs.declared.front.Place.{Place}
use Rattle.w3c_front.specs.declared.front.Place.TheVariants.{First, Later}
use Rattle.w3c_front.specs.declared.table.Language.{Language}
use Rattle.w3c_front.specs.Table.{prefixes, is_listed}
use Rattle.w3c_front.specs.Identifier.{past_first, past_prefix, field_of, slot_of}
use Rattle.w3c_front.specs.Items.{is_blank, is_inner, heading, has_heading, after_blanks, given_of, passed}
use Rattle.w3c_front.specs.Reading.{on_field, reading, GivesSlot}
use Rattle.w3c_front.specs.FrontLaws.{fine_heading}

pub not_prefixed : (language : Language) (mark : ℕ) (name front : List ℕ) → front ≡ run (is_not mark) name → is_listed (prefixes language) front ≡ false → past_prefix language mark name ≡ None
not_prefixed language mark name front is none = ap (λ v. cond v (past_first (past (is_not mark) name)) None) (ap (is_listed (prefixes language)) (sym is) ∙ none)

-- ---- the start of a list of fields

blanks_here : (state : Fields) (b : ℕ) (tail : List ℕ) → is_blank b ≡ true → reading state (b ∷ tail) ≡ Found (passed state (run is_blank (b ∷ tail)) (after_blanks state.place)) (past is_blank (b ∷ tail))
blanks_here state b tail h =
    ap (λ v. cond v (Found (passed state (run is_blank (b ∷ tail)) (after_blanks state.place)) (past is_blank (b ∷ tail)))
    (cond (eqb b 10) (Failed LineBreak) (cond (has_heading state.place (b ∷ tail)) (Found (passed state heading First) (drop 8 (b ∷ tail)))
    (on_field state (run is_inner (b ∷ tail)) (past is_inner (b ∷ tail)) (field_of state.language (run is_inner (b ∷ tail))))))) h

pub blanks_read : (state : Fields) (rest : List ℕ) (b : ℕ) (tail : List ℕ) (n : ℕ) (place : Place) → rest ≡ b ∷ tail → is_blank b ≡ true → n ≡ prefix_len is_blank rest → place ≡ after_blanks state.place
    → (n ≤ length rest) × (reading state rest ≡ Found (passed state (take n rest) place) (drop n rest))
blanks_read state rest b tail n place parts h len is =
    let cut = run_taken is_blank rest n len in
    let here : reading state rest ≡ Found (passed state (run is_blank rest) (after_blanks state.place)) (past is_blank rest) =
    subst (λ (t : List ℕ). reading state t ≡ Found (passed state (run is_blank t) (after_blanks state.place)) (past is_blank t)) (sym parts) (blanks_here state b tail h) in
    (cut.2, here ∙ ap (λ (t : List ℕ). Found (passed state t (after_blanks state.place)) (past is_blank rest)) (sym cut.0) ∙ ap (λ (t : List ℕ). Found (passed state (take n rest) (after_blanks state.place)) t) (sym cut.1) ∙ ap (λ (p : Place). Found (passed state (take n rest) p) (drop n rest)) (sym is))

-- past spaces, tabs and a line feed
unblank : (state : Fields) (b : ℕ) (tail : List ℕ) → is_blank b ≡ false → eqb b 10 ≡ false
    → reading state (b ∷ tail) ≡ cond (has_heading state.place (b ∷ tail)) (Found (passed state heading First) (drop 8 (b ∷ tail))) (on_field state (run is_inner (b ∷ tail)) (past is_inner (b ∷ tail)) (field_of state.language (run is_inner (b ∷ tail))))
unblank state b tail blank feed =
    ap (λ v. cond v (Found (passed state (run is_blank (b ∷ tail)) (after_blanks state.place)) (past is_blank (b ∷ tail)))
    (cond (eqb b 10) (Failed LineBreak) (cond (has_heading state.place (b ∷ tail)) (Found (passed state heading First) (drop 8 (b ∷ tail)))
    (on_field state (run is_inner (b ∷ tail)) (past is_inner (b ∷ tail)) (field_of state.language (run is_inner (b ∷ tail))))))) blank
    ∙ ap (λ v. cond v (Failed LineBreak) (cond (has_heading state.place (b ∷ tail)) (Found (passed state heading First) (drop 8 (b ∷ tail)))
    (on_field state (run is_inner (b ∷ tail)) (past is_inner (b ∷ tail)) (field_of state.language (run is_inner (b ∷ tail)))))) feed

after_feed : (state : Fields) (rest : List ℕ) (b : ℕ) (tail : List ℕ) → rest ≡ b ∷ tail → is_blank b ≡ false → eqb b 10 ≡ false
    → reading state rest ≡ cond (has_heading state.place rest) (Found (passed state heading First) (drop 8 rest)) (on_field state (run is_inner rest) (past is_inner rest) (field_of state.language (run is_inner rest)))
after_feed state rest b tail parts blank feed =
    subst (λ (t : List ℕ). reading state t ≡ cond (has_heading state.place t) (Found (passed state heading First) (drop 8 t)) (on_field state (run is_inner t) (past is_inner t) (field_of state.language (run is_inner t)))) (sym parts) (unblank state b tail blank feed)

pub heading_read : (state : Fields) (rest : List ℕ) (b : ℕ) (tail : List ℕ) → rest ≡ b ∷ tail → is_blank b ≡ false → eqb b 10 ≡ false → has_heading state.place rest ≡ true
    → (8 ≤ length rest) × (reading state rest ≡ Found (passed state (take 8 rest) First) (drop 8 rest))
heading_read state rest b tail parts blank feed head =
    let whole = (fine_heading state.place rest head).1 in
    let front : take 8 rest ≡ heading = ap (take 8) whole ∙ take_at heading (drop 8 rest) 8 refl in
    let long : length rest ≡ length heading + length (drop 8 rest) = ap length whole ∙ length-append heading (drop 8 rest) in (
      omega (arith, long),
      after_feed state rest b tail parts blank feed
          ∙ ap (λ v. cond v (Found (passed state heading First) (drop 8 rest)) (on_field state (run is_inner rest) (past is_inner rest) (field_of state.language (run is_inner rest)))) head
          ∙ ap (λ (t : List ℕ). Found (passed state t First) (drop 8 rest)) (sym front),
    )

pub identifier_read : (state : Fields) (rest : List ℕ) (b : ℕ) (tail : List ℕ) (n : ℕ) (name : List ℕ) → rest ≡ b ∷ tail → is_blank b ≡ false → eqb b 10 ≡ false → has_heading state.place rest ≡ false → n ≡ prefix_len is_inner rest → name ≡ take n rest
    → reading state rest ≡ on_field state name (drop n rest) (field_of state.language name)
identifier_read state rest b tail n name parts blank feed head len is =
    let cut = run_taken is_inner rest n len in
    after_feed state rest b tail parts blank feed
    ∙ ap (λ v. cond v (Found (passed state heading First) (drop 8 rest)) (on_field state (run is_inner rest) (past is_inner rest) (field_of state.language (run is_inner rest)))) head
    ∙ ap (λ (t : List ℕ). on_field state t (past is_inner rest) (field_of state.language t)) (sym cut.0 ∙ sym is)
    ∙ ap (λ (t : List ℕ). on_field state name t (field_of state.language name)) (sym cut.1)

pub field_fails : (state next : Fields) (rest name after : List ℕ) (cause : ItemFault) → reading state rest ≡ on_field state name after (field_of state.language name) → GivesSlot state.language name (Err cause) → GivesItem (reading state rest) next rest (Err cause)
field_fails state next rest name after (fault.Fault cause) read h = read ∙ ap (on_field state name after) h
field_fails state next rest name after fault.OutOfMemory read h = tt

pub field_read : (state : Fields) (rest name : List ℕ) (n : ℕ) (slot : Slot) (given : Given) → n ≤ length rest → name ≡ take n rest → reading state rest ≡ on_field state name (drop n rest) (field_of state.language name) → GivesSlot state.language name (Ok slot) → given ≡ given_of state.place slot
    → (n ≤ length rest) × (reading state rest ≡ Found (record { bytes = take n rest; given = given; state = record { language = state.language; place = Later } }) (drop n rest))
field_read state rest name n slot given short is read h gives =
    let sort = h.0 in
    let given_is : given_of state.place (slot_of name h.0) ≡ given = ap (given_of state.place) (sym h.2) ∙ sym gives in (
      short,
      read ∙ ap (on_field state name (drop n rest)) h.1
          ∙ ap (λ (g : Given). Found (record { bytes = name; given = g; state = record { language = state.language; place = Later } }) (drop n rest)) given_is
          ∙ ap (λ (t : List ℕ). Found (record { bytes = t; given = given; state = record { language = state.language; place = Later } }) (drop n rest)) is,
    )
