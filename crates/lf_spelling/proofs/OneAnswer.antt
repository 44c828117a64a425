-- Each text spells one format, or it has one first fault.
use Rattle.std.proofs.Common.{◌≡◌, ◌≢◌, ◌≤◌, ◌+◌, ◌⊎◌, inl, inr, ℕ, zero, suc, Bool, false, cond, ltb, List, [], ◌∷◌, ◌++◌, length, Result, Ok, Err, refl, sym, ap, subst, ◌∙◌, append_assoc, append-nil, length-append, arith}
use Rattle.std.proofs.lemmas.Bool.{cases_lt, lt-ltb, le-ltb}
use Rattle.lf_format.specs.declared.format.Piece.{Piece}
use Rattle.lf_spelling.specs.declared.fault.Cause.{Cause}
use Rattle.lf_spelling.specs.declared.fault.Cause.TheVariants.{EmptyFormat, TooManySlots}
use Rattle.lf_spelling.specs.declared.item_reader.Given.{Given}
use Rattle.lf_spelling.specs.Pieces.{pieces_of, slots_of}
use Rattle.lf_spelling.specs.Items.{Item, Reading, Found, Failed, text_of, given_of, state_after, Stand}
use Rattle.lf_spelling.specs.Spelling.{BeginsWith, SpellsPieces, Faulty, no_item, one_too_many, no_piece, Spells, IsAnswer, AnswersFormat, AnswersFault, HasOneAnswer}
use Rattle.lf_format.specs.Shape.{Shape}
use Rattle.lf_format.specs.declared.format.LineEnd.{LineEnd}
use Rattle.lf_spelling.specs.declared.fault.FormatFault.{FormatFault}
use Rattle.lf_spelling.specs.declared.fault.FormatFault.TheVariants as fault
use Rattle.lf_spelling.specs.ItemReaders.{ReadsItems}
use Rattle.lf_spelling.proofs.Joining.{slots_of-append}
use Rattle.lf_spelling.proofs.Steps.{begins_more}

abbrev Answer : Type 0
Answer = Result (List Piece) (ℕ × Cause)

on_reading : {S : Type 0} → Reading S → (Item S → List ℕ → Answer) → (Cause → Answer) → Answer
on_reading (Found item after) found failed = found item after
on_reading (Failed cause) found failed = failed cause

ending : List Piece → Answer
ending [] = Err (0, EmptyFormat)
ending (piece ∷ pieces) = Ok (piece ∷ pieces)

-- the answer on the rest of a text, with what was given before, and the place
answer : {S : Type 0} → (S → List ℕ → Reading S) → List ℕ → ℕ → S → List Given → ℕ → Answer
answer reading [] fuel state given at = ending (pieces_of given)
answer reading (b ∷ text) zero state given at = Err (0, EmptyFormat)
answer reading (b ∷ text) (suc fuel) state given at =
    on_reading (reading state (b ∷ text))
    (λ item after. cond (ltb 128 (slots_of (given ++ item.given ∷ []))) (Err (at, TooManySlots)) (answer reading after fuel item.state (given ++ item.given ∷ []) (at + length item.bytes)))
    (λ cause. Err (at, cause))

on_found : {S : Type 0} (reading : S → List ℕ → Reading S) (text : List ℕ) (fuel : ℕ) (state : S) (given : List Given) (at : ℕ) (item : Item S) (after : List ℕ) → 1 ≤ length text → reading state text ≡ Found item after
    → answer reading text (suc fuel) state given at ≡ cond (ltb 128 (slots_of (given ++ item.given ∷ []))) (Err (at, TooManySlots)) (answer reading after fuel item.state (given ++ item.given ∷ []) (at + length item.bytes))
unfolding answer on_reading
on_found reading [] fuel state given at item after some read = absurd (omega arith)
on_found reading (b ∷ text) fuel state given at item after some read =
    ap (λ r. on_reading r (λ item after. cond (ltb 128 (slots_of (given ++ item.given ∷ []))) (Err (at, TooManySlots)) (answer reading after fuel item.state (given ++ item.given ∷ []) (at + length item.bytes))) (λ cause. Err (at, cause))) read

on_failed : {S : Type 0} (reading : S → List ℕ → Reading S) (text : List ℕ) (fuel : ℕ) (state : S) (given : List Given) (at : ℕ) (cause : Cause) → 1 ≤ length text → reading state text ≡ Failed cause → answer reading text (suc fuel) state given at ≡ Err (at, cause)
unfolding answer on_reading
on_failed reading [] fuel state given at cause some read = absurd (omega arith)
on_failed reading (b ∷ text) fuel state given at cause some read =
    ap (λ r. on_reading r (λ item after. cond (ltb 128 (slots_of (given ++ item.given ∷ []))) (Err (at, TooManySlots)) (answer reading after fuel item.state (given ++ item.given ∷ []) (at + length item.bytes))) (λ cause. Err (at, cause))) read

at_the_end : {S : Type 0} (reading : S → List ℕ → Reading S) (fuel : ℕ) (state : S) (given : List Given) (at : ℕ) → answer reading [] fuel state given at ≡ ending (pieces_of given)
unfolding answer
at_the_end reading fuel state given at = refl

-- where the items have been read
record Along {S : Type 0} (reading : S → List ℕ → Reading S) (total : Answer) (rest : List ℕ) (state : S) (given : List Given) (at : ℕ) : Type 0 where
  fuel : ℕ
  enough : length rest ≤ fuel
  is : total ≡ answer reading rest fuel state given at

along : {S : Type 0} (reading : S → List ℕ → Reading S) (item_is : S → Item S → List ℕ → Type 0) (fault_is : S → List ℕ → Cause → Type 0) (laws : ReadsItems reading item_is fault_is)
    (items : List (Item S)) (rest : List ℕ) (fuel : ℕ) (state : S) (given : List Given) (at : ℕ) → Stand item_is state items rest → slots_of (given ++ given_of items) ≤ 128 → length (text_of items ++ rest) ≤ fuel
    → Along reading (answer reading (text_of items ++ rest) fuel state given at) rest (state_after state items) (given ++ given_of items) (at + length (text_of items))
along reading item_is fault_is laws [] rest fuel state given at stand few enough = record {
  fuel = fuel;
  enough = enough;
  is = ap (λ (g : List Given). answer reading rest fuel state g at) (sym (append-nil given)) ∙ ap (λ (n : ℕ). answer reading rest fuel state (given ++ []) n) (omega arith);
}
along reading item_is fault_is laws (item ∷ items) rest zero state given at stand few enough =
    let one = (laws.item_found state item (text_of items ++ rest) stand.0).0 in
    absurd (omega (arith, one, enough, length-append item.bytes (text_of items), length-append (item.bytes ++ text_of items) rest))
along reading item_is fault_is laws (item ∷ items) rest (suc fuel) state given at stand few enough =
    let found = laws.item_found state item (text_of items ++ rest) stand.0 in
    let parts : (item.bytes ++ text_of items) ++ rest ≡ item.bytes ++ (text_of items ++ rest) = append_assoc item.bytes (text_of items) rest in
    let some : 1 ≤ length (item.bytes ++ (text_of items ++ rest)) = omega (arith, found.0, length-append item.bytes (text_of items ++ rest)) in
    let here = on_found reading (item.bytes ++ (text_of items ++ rest)) fuel state given at item (text_of items ++ rest) some found.1 in
    let regrouped : (given ++ item.given ∷ []) ++ given_of items ≡ given ++ item.given ∷ given_of items = append_assoc given (item.given ∷ []) (given_of items) in
    let few' : slots_of ((given ++ item.given ∷ []) ++ given_of items) ≤ 128 = subst (λ (g : List Given). slots_of g ≤ 128) (sym regrouped) few in
    let not_many : ltb 128 (slots_of (given ++ item.given ∷ [])) ≡ false = le-ltb _ _ (omega (arith, few', slots_of-append (given ++ item.given ∷ []) (given_of items))) in
    let left : length (text_of items ++ rest) ≤ fuel = omega (arith, found.0, enough, ap length parts, length-append item.bytes (text_of items ++ rest)) in
    let next = along reading item_is fault_is laws items rest fuel item.state (given ++ item.given ∷ []) (at + length item.bytes) stand.1 few' left in
    let first : answer reading ((item.bytes ++ text_of items) ++ rest) (suc fuel) state given at ≡ answer reading (text_of items ++ rest) fuel item.state (given ++ item.given ∷ []) (at + length item.bytes) =
    ap (λ (t : List ℕ). answer reading t (suc fuel) state given at) parts ∙ here ∙ ap (λ b. cond b (Err (at, TooManySlots)) (answer reading (text_of items ++ rest) fuel item.state (given ++ item.given ∷ []) (at + length item.bytes))) not_many in
    let place : (at + length item.bytes) + length (text_of items) ≡ at + length (item.bytes ++ text_of items) = omega (arith, length-append item.bytes (text_of items)) in
    record {
      fuel = next.fuel;
      enough = next.enough;
      is = first ∙ next.is ∙ ap (λ (g : List Given). answer reading rest next.fuel (state_after item.state items) g ((at + length item.bytes) + length (text_of items))) regrouped ∙ ap (λ (n : ℕ). answer reading rest next.fuel (state_after item.state items) (given ++ item.given ∷ given_of items) n) place;
    }

answer_to : {S : Type 0} → (S → List ℕ → Reading S) → S → List ℕ → Answer
answer_to reading start text = answer reading text (length text) start [] 0

begun : {S : Type 0} (reading : S → List ℕ → Reading S) (item_is : S → Item S → List ℕ → Type 0) (fault_is : S → List ℕ → Cause → Type 0) (laws : ReadsItems reading item_is fault_is)
    (start : S) (text : List ℕ) (items : List (Item S)) (rest : List ℕ) → BeginsWith item_is start text items rest → Along reading (answer_to reading start text) rest (state_after start items) (given_of items) (length (text_of items))
unfolding answer_to
begun reading item_is fault_is laws start text items rest h =
    let far = along reading item_is fault_is laws items rest (length text) start [] 0 h.stand h.few (omega (arith, ap length h.parts)) in
    record {
      fuel = far.fuel;
      enough = far.enough;
      is = ap (λ (t : List ℕ). answer reading t (length text) start [] 0) h.parts ∙ far.is ∙ ap (λ (n : ℕ). answer reading rest far.fuel (state_after start items) (given_of items) n) (omega arith);
    }

ending-some : (pieces : List Piece) → pieces ≢ [] → ending pieces ≡ Ok pieces
unfolding ending
ending-some [] some = absurd (some refl)
ending-some (piece ∷ pieces) some = refl

ending-none : (pieces : List Piece) → pieces ≡ [] → ending pieces ≡ Err (0, EmptyFormat)
unfolding ending
ending-none [] none = refl
ending-none (piece ∷ pieces) none = absurd cc

spelled_answer : {S : Type 0} (reading : S → List ℕ → Reading S) (item_is : S → Item S → List ℕ → Type 0) (fault_is : S → List ℕ → Cause → Type 0) (laws : ReadsItems reading item_is fault_is)
    (start : S) (text : List ℕ) (pieces : List Piece) → SpellsPieces item_is start text pieces → answer_to reading start text ≡ Ok pieces
spelled_answer reading item_is fault_is laws start text pieces h =
    let far = begun reading item_is fault_is laws start text h.items [] h.whole in
    far.is ∙ at_the_end reading far.fuel _ _ _ ∙ ap ending (sym h.pieces_are) ∙ ending-some pieces h.some

some_fuel : {S : Type 0} (reading : S → List ℕ → Reading S) (total : Answer) (rest : List ℕ) (state : S) (given : List Given) (at : ℕ) (far : Along reading total rest state given at) → 1 ≤ length rest → (fuel : ℕ) × (total ≡ answer reading rest (suc fuel) state given at)
some_fuel reading total rest state given at far some = less far.fuel far.enough far.is
  where
    less : (fuel : ℕ) → length rest ≤ fuel → total ≡ answer reading rest fuel state given at → (fuel : ℕ) × (total ≡ answer reading rest (suc fuel) state given at)
    less zero enough is = absurd (omega arith)
    less (suc fuel) enough is = (fuel, is)

faulty_answer : {S : Type 0} (reading : S → List ℕ → Reading S) (item_is : S → Item S → List ℕ → Type 0) (fault_is : S → List ℕ → Cause → Type 0) (laws : ReadsItems reading item_is fault_is)
    (start : S) (text : List ℕ) (place : ℕ) (cause : Cause) → Faulty item_is fault_is start text place cause → answer_to reading start text ≡ Err (place, cause)
faulty_answer reading item_is fault_is laws start text place cause (no_item items rest begins place_is fault) =
    let far = begun reading item_is fault_is laws start text items rest begins in
    let found = laws.fault_found (state_after start items) rest cause fault in
    let fuelled = some_fuel reading _ _ _ _ _ far found.0 in
    fuelled.1 ∙ on_failed reading rest fuelled.0 (state_after start items) (given_of items) (length (text_of items)) cause found.0 found.1 ∙ ap (λ (n : ℕ). Err (n, cause)) (sym place_is)
faulty_answer reading item_is fault_is laws start text place cause (one_too_many items item rest begins place_is is many cause_is) =
    let far = begun reading item_is fault_is laws start text items (item.bytes ++ rest) begins in
    let found = laws.item_found (state_after start items) item rest is in
    let some : 1 ≤ length (item.bytes ++ rest) = omega (arith, found.0, length-append item.bytes rest) in
    let fuelled = some_fuel reading _ _ _ _ _ far some in
    let here = on_found reading (item.bytes ++ rest) fuelled.0 (state_after start items) (given_of items) (length (text_of items)) item rest some found.1 in
    fuelled.1 ∙ here ∙ ap (λ b. cond b (Err (length (text_of items), TooManySlots)) (answer reading rest fuelled.0 item.state (given_of items ++ item.given ∷ []) (length (text_of items) + length item.bytes))) (lt-ltb _ _ many) ∙ ap (λ (n : ℕ). Err (n, TooManySlots)) (sym place_is) ∙ ap (λ (c : Cause). Err (place, c)) (sym cause_is)
faulty_answer reading item_is fault_is laws start text place cause (no_piece items begins none place_is cause_is) =
    let far = begun reading item_is fault_is laws start text items [] begins in
    far.is ∙ at_the_end reading far.fuel _ _ _ ∙ ending-none _ none ∙ ap (λ (n : ℕ). Err (n, EmptyFormat)) (sym place_is) ∙ ap (λ (c : Cause). Err (place, c)) (sym cause_is)

abbrev Says : {S : Type 0} → (S → Item S → List ℕ → Type 0) → (S → List ℕ → Cause → Type 0) → S → List ℕ → Type 0
Says item_is fault_is start text = ((pieces : List Piece) × SpellsPieces item_is start text pieces) ⊎ ((place : ℕ) × (cause : Cause) × Faulty item_is fault_is start text place cause)

says_at_end : {S : Type 0} (item_is : S → Item S → List ℕ → Type 0) (fault_is : S → List ℕ → Cause → Type 0) (start : S) (text : List ℕ) (items : List (Item S)) (pieces : List Piece) → pieces ≡ pieces_of (given_of items) → BeginsWith item_is start text items [] → Says item_is fault_is start text
says_at_end item_is fault_is start text items [] is h = inr (0, EmptyFormat, no_piece items h (sym is) refl refl)
says_at_end item_is fault_is start text items (piece ∷ pieces) is h = inl (piece ∷ pieces, record { items = items; whole = h; pieces_are = is; some = λ e. absurd cc })

-- what a reading at the start of the rest says, where what follows one more item says something
says_here : {S : Type 0} (reading : S → List ℕ → Reading S) (item_is : S → Item S → List ℕ → Type 0) (fault_is : S → List ℕ → Cause → Type 0) (laws : ReadsItems reading item_is fault_is)
    (start : S) (text : List ℕ) (fuel : ℕ) (items : List (Item S)) (rest : List ℕ) → 1 ≤ length rest → length rest ≤ suc fuel → BeginsWith item_is start text items rest
    → ((more : List (Item S)) (after : List ℕ) → length after ≤ fuel → BeginsWith item_is start text more after → Says item_is fault_is start text)
    → (r : Reading S) → reading (state_after start items) rest ≡ r → Says item_is fault_is start text
says_here reading item_is fault_is laws start text fuel items rest some enough h onward (Found item after) read =
    let found = laws.found (state_after start items) rest item after some read in
    let one = (laws.item_found (state_after start items) item after found.1).0 in
    let begins : BeginsWith item_is start text items (item.bytes ++ after) = subst (BeginsWith item_is start text items) found.0 h in
    let less : length after ≤ fuel = omega (arith, enough, ap length found.0, length-append item.bytes after, one) in
    elim (cases_lt 128 (slots_of (given_of items ++ item.given ∷ []))) [
      | inl many ↦ inr (length (text_of items), TooManySlots, one_too_many items item after begins refl found.1 many refl)
      | inr few ↦ onward (items ++ item ∷ []) after less (begins_more item_is start text items item after begins found.1 few)
    ]
says_here reading item_is fault_is laws start text fuel items rest some enough h onward (Failed cause) read =
    inr (length (text_of items), cause, no_item items rest h refl (laws.failed (state_after start items) rest cause some read))

-- from where items have been read, the text says something
says : {S : Type 0} (reading : S → List ℕ → Reading S) (item_is : S → Item S → List ℕ → Type 0) (fault_is : S → List ℕ → Cause → Type 0) (laws : ReadsItems reading item_is fault_is)
    (start : S) (text : List ℕ) (fuel : ℕ) (items : List (Item S)) (rest : List ℕ) → length rest ≤ fuel → BeginsWith item_is start text items rest → Says item_is fault_is start text
says reading item_is fault_is laws start text fuel items [] enough h = says_at_end item_is fault_is start text items (pieces_of (given_of items)) refl h
says reading item_is fault_is laws start text zero items (b ∷ rest) enough h = absurd (omega arith)
says reading item_is fault_is laws start text (suc fuel) items (b ∷ rest) enough h =
    says_here reading item_is fault_is laws start text fuel items (b ∷ rest) (omega arith) enough h (λ more after less begins. says reading item_is fault_is laws start text fuel more after less begins) (reading (state_after start items) (b ∷ rest)) refl

place_of : Answer → ℕ
place_of (Ok pieces) = 0
place_of (Err fault) = fault.0

cause_of : Answer → Cause
cause_of (Ok pieces) = EmptyFormat
cause_of (Err fault) = fault.1

same_pieces : (a b : List Piece) (total : Answer) → total ≡ Ok a → total ≡ Ok b → a ≡ b
same_pieces a b total p q = cc

same_fault : (p q : ℕ) (a b : Cause) (total : Answer) → total ≡ Err (p, a) → total ≡ Err (q, b) → (p ≡ q) × (a ≡ b)
unfolding place_of cause_of
same_fault p q a b total h k = (ap place_of (sym h ∙ k), ap cause_of (sym h ∙ k))

not_both_answers : (a : List Piece) (p : ℕ) (c : Cause) (total : Answer) → total ≡ Ok a → total ≡ Err (p, c) → ⊥
not_both_answers a p c total h k = cc

-- A text spells one list of pieces, or it has one first fault.
pub record HasOnePieces {State : Type 0} (item_is : State → Item State → List ℕ → Type 0) (fault_is : State → List ℕ → Cause → Type 0) (start : State) (text : List ℕ) : Type 0 where
  pub some : ((pieces : List Piece) × SpellsPieces item_is start text pieces) ⊎ ((place : ℕ) × (cause : Cause) × Faulty item_is fault_is start text place cause)
  pub one_format : (a b : List Piece) → SpellsPieces item_is start text a → SpellsPieces item_is start text b → a ≡ b
  pub one_fault : (p q : ℕ) (a b : Cause) → Faulty item_is fault_is start text p a → Faulty item_is fault_is start text q b → (p ≡ q) × (a ≡ b)
  pub not_both : (pieces : List Piece) (place : ℕ) (cause : Cause) → SpellsPieces item_is start text pieces → Faulty item_is fault_is start text place cause → ⊥

has_one_pieces : {S : Type 0} (reading : S → List ℕ → Reading S) (item_is : S → Item S → List ℕ → Type 0) (fault_is : S → List ℕ → Cause → Type 0) (laws : ReadsItems reading item_is fault_is)
    (start : S) (text : List ℕ) → HasOnePieces item_is fault_is start text
has_one_pieces reading item_is fault_is laws start text = record {
  some = says reading item_is fault_is laws start text (length text) [] text (omega arith) (record { parts = refl; stand = tt; few = omega arith });
  one_format = λ a b h k. same_pieces a b (answer_to reading start text) (spelled_answer reading item_is fault_is laws start text a h) (spelled_answer reading item_is fault_is laws start text b k);
  one_fault = λ p q a b h k. same_fault p q a b (answer_to reading start text) (faulty_answer reading item_is fault_is laws start text p a h) (faulty_answer reading item_is fault_is laws start text q b k);
  not_both = λ a p c h k. not_both_answers a p c (answer_to reading start text) (spelled_answer reading item_is fault_is laws start text a h) (faulty_answer reading item_is fault_is laws start text p c k);
}

same_shape : (a b : Shape) → a.pieces ≡ b.pieces → a.end ≡ b.end → a.notes ≡ b.notes → a ≡ b
same_shape a b p e n =
    ap (λ (x : List Piece). record a { pieces = x }) p ∙ ap (λ (x : LineEnd). record a { pieces = b.pieces; end = x }) e ∙ ap (λ (x : Bool). record b { notes = x }) n

spells_some : {S : Type 0} (item_is : S → Item S → List ℕ → Type 0) (fault_is : S → List ℕ → Cause → Type 0) (start : S) (end : LineEnd) (notes : Bool) (text : List ℕ) → Says item_is fault_is start text
    → ((format : Shape) × Spells item_is start end notes text format) ⊎ ((place : ℕ) × (cause : Cause) × Faulty item_is fault_is start text place cause)
spells_some item_is fault_is start end notes text (inl s) = inl (record { pieces = s.0; end = end; notes = notes }, record { pieces = s.1; end_is = refl; notes_is = refl })
spells_some item_is fault_is start end notes text (inr f) = inr f

pub has_one_answer : {S : Type 0} (reading : S → List ℕ → Reading S) (item_is : S → Item S → List ℕ → Type 0) (fault_is : S → List ℕ → Cause → Type 0) (laws : ReadsItems reading item_is fault_is)
    (start : S) (end : LineEnd) (notes : Bool) (text : List ℕ) → HasOneAnswer item_is fault_is start end notes text
has_one_answer reading item_is fault_is laws start end notes text =
    let one = has_one_pieces reading item_is fault_is laws start text in
    record {
      some = spells_some item_is fault_is start end notes text one.some;
      one_format = λ a b h k. same_shape a b (one.one_format a.pieces b.pieces h.pieces k.pieces) (h.end_is ∙ sym k.end_is) (h.notes_is ∙ sym k.notes_is);
      one_fault = one.one_fault;
      not_both = λ a p c h k. one.not_both a.pieces p c h.pieces k;
    }

-- What is so of the text is answered, unless memory runs out.
pub record IsOnlyAnswer {State : Type 0} (item_is : State → Item State → List ℕ → Type 0) (fault_is : State → List ℕ → Cause → Type 0) (start : State) (end : LineEnd) (notes : Bool) (text : List ℕ) (result : Result Shape FormatFault) : Type 0 where
  pub spelled : (format : Shape) → Spells item_is start end notes text format → AnswersFormat format result
  pub faulty : (place : ℕ) (cause : Cause) → Faulty item_is fault_is start text place cause → AnswersFault place cause result

pub only_answer : {S : Type 0} (item_is : S → Item S → List ℕ → Type 0) (fault_is : S → List ℕ → Cause → Type 0) (start : S) (end : LineEnd) (notes : Bool) (text : List ℕ) → HasOneAnswer item_is fault_is start end notes text
    → (result : Result Shape FormatFault) → IsAnswer item_is fault_is start end notes text result → IsOnlyAnswer item_is fault_is start end notes text result
only_answer item_is fault_is start end notes text one (Ok found) h = record {
  spelled = λ format s. one.one_format found format h s;
  faulty = λ place cause f. one.not_both found place cause h f;
}
only_answer item_is fault_is start end notes text one (Err (fault.At at because)) h = record {
  spelled = λ format s. one.not_both format at because s h;
  faulty = λ place cause f. one.one_fault at place because cause h f;
}
only_answer item_is fault_is start end notes text one (Err fault.OutOfMemory) h = record { spelled = λ format s. tt; faulty = λ place cause f. tt }
