-- A text that begins with items, item by item.
use Rattle.std.proofs.Common.{◌≡◌, ℕ, ◌<◌, ◌≤◌, ◌+◌, List, [], ◌∷◌, ◌++◌, length, take, drop, refl, sym, ap, subst, ◌∙◌, append_assoc, append-nil, length-append, length-drop, arith}
use Rattle.lf_spelling.specs.declared.item_reader.Given.{Given}
use Rattle.lf_spelling.specs.declared.built.Built.{Built}
use Rattle.lf_spelling.specs.Pieces.{pieces_of, slots_of}
use Rattle.lf_spelling.specs.Items.{Item, text_of, given_of, state_after, Stand}
use Rattle.lf_spelling.specs.Spelling.{BeginsWith, Faulty, no_item, one_too_many, no_piece}
use Rattle.lf_spelling.specs.ItemReaders.{ReadsItems}
use Rattle.lf_spelling.specs.Items.{Reading, Found, Failed}
use Rattle.lf_format.specs.declared.format.Piece.{Piece}
use Rattle.lf_spelling.specs.declared.fault.Cause.{Cause}
use Rattle.lf_spelling.specs.declared.fault.Cause.TheVariants.{EmptyFormat, TooManySlots}
use Rattle.lf_spelling.proofs.Joining.{slots_of-append}
use Rattle.std.proofs.lemmas.List.{length-take, drop_all, drop-drop}
use Rattle.lf_spelling.specs.Building.{IsBuilt, Builds}

text_of-more : {S : Type 0} (items : List (Item S)) (item : Item S) → text_of (items ++ item ∷ []) ≡ text_of items ++ item.bytes
text_of-more [] item = append-nil item.bytes
text_of-more (i ∷ items) item = ap (λ (t : List ℕ). i.bytes ++ t) (text_of-more items item) ∙ sym (append_assoc i.bytes (text_of items) item.bytes)

given_of-more : {S : Type 0} (items : List (Item S)) (item : Item S) → given_of (items ++ item ∷ []) ≡ given_of items ++ item.given ∷ []
given_of-more [] item = refl
given_of-more (i ∷ items) item = ap (λ (t : List Given). i.given ∷ t) (given_of-more items item)

state_after-more : {S : Type 0} (state : S) (items : List (Item S)) (item : Item S) → state_after state (items ++ item ∷ []) ≡ item.state
state_after-more state [] item = refl
state_after-more state (i ∷ items) item = state_after-more i.state items item

text_of-rest : {S : Type 0} (items : List (Item S)) (item : Item S) (rest : List ℕ) → text_of items ++ (item.bytes ++ rest) ≡ text_of (items ++ item ∷ []) ++ rest
text_of-rest items item rest = sym (append_assoc (text_of items) item.bytes rest) ∙ ap (λ (t : List ℕ). t ++ rest) (sym (text_of-more items item))

stand_more : {S : Type 0} (item_is : S → Item S → List ℕ → Type 0) (state : S) (items : List (Item S)) (item : Item S) (rest : List ℕ) → Stand item_is state items (item.bytes ++ rest) → item_is (state_after state items) item rest → Stand item_is state (items ++ item ∷ []) rest
stand_more item_is state [] item rest h is = (is, tt)
stand_more item_is state (i ∷ items) item rest h is = (subst (item_is state i) (text_of-rest items item rest) h.0, stand_more item_is i.state items item rest h.1 is)

pub begins_more : {S : Type 0} (item_is : S → Item S → List ℕ → Type 0) (start : S) (text : List ℕ) (items : List (Item S)) (item : Item S) (rest : List ℕ) → BeginsWith item_is start text items (item.bytes ++ rest) → item_is (state_after start items) item rest → slots_of (given_of items ++ item.given ∷ []) ≤ 128 → BeginsWith item_is start text (items ++ item ∷ []) rest
begins_more item_is start text items item rest h is few = record {
  parts = h.parts ∙ text_of-rest items item rest;
  stand = stand_more item_is start items item rest h.stand is;
  few = rw given_of-more few;
}

-- how far a text has been read
pub record Progress {S : Type 0} (item_is : S → Item S → List ℕ → Type 0) (start : S) (text : List ℕ) (at : ℕ) (state : S) (built : Built) : Type 0 where
  pub items : List (Item S)
  pub begins : BeginsWith item_is start text items (drop at text)
  pub state_is : state_after start items ≡ state
  pub at_is : at ≡ length (text_of items)
  pub built_is : IsBuilt (given_of items) built

-- the item at hand, as the front's law has it
at_hand : {S : Type 0} (reading : S → List ℕ → Reading S) (item_is : S → Item S → List ℕ → Type 0) (fault_is : S → List ℕ → Cause → Type 0) (laws : ReadsItems reading item_is fault_is)
    (start : S) (text : List ℕ) (at : ℕ) (state : S) (built : Built) (p : Progress item_is start text at state built) (item : Item S) (after : List ℕ) → at < length text
    → reading state (drop at text) ≡ Found item after → (drop at text ≡ item.bytes ++ after) × item_is (state_after start p.items) item after × (1 ≤ length item.bytes)
at_hand reading item_is fault_is laws start text at state built p item after low read =
    let some : 1 ≤ length (drop at text) = omega (arith, length-drop at text) in
    let found = laws.found state (drop at text) item after some read in
    (found.0, subst (λ (s : _). item_is s item after) (sym p.state_is) found.1, (laws.item_found state item after found.1).0)

pub more_than_none : {S : Type 0} (reading : S → List ℕ → Reading S) (item_is : S → Item S → List ℕ → Type 0) (fault_is : S → List ℕ → Cause → Type 0) (laws : ReadsItems reading item_is fault_is)
    (text : List ℕ) (at : ℕ) (state : S) (item : Item S) (len : ℕ) → at < length text → item.bytes ≡ take len (drop at text) → reading state (drop at text) ≡ Found item (drop len (drop at text)) → 1 ≤ len
more_than_none reading item_is fault_is laws text at state item len low is read =
    let some : 1 ≤ length (drop at text) = omega (arith, length-drop at text) in
    let found = laws.found state (drop at text) item (drop len (drop at text)) some read in
    let one = (laws.item_found state item (drop len (drop at text)) found.1).0 in
    omega (arith, one, ap length is, length-take len (drop at text))

pub progress_more : {S : Type 0} (reading : S → List ℕ → Reading S) (item_is : S → Item S → List ℕ → Type 0) (fault_is : S → List ℕ → Cause → Type 0) (laws : ReadsItems reading item_is fault_is)
    (start : S) (text : List ℕ) (at : ℕ) (state : S) (built : Built) (p : Progress item_is start text at state built) (item : Item S) (len : ℕ) (new : Built) → at < length text → len ≤ length (drop at text)
    → item.bytes ≡ take len (drop at text) → reading state (drop at text) ≡ Found item (drop len (drop at text)) → built.slots + slots_of (item.given ∷ []) ≤ 128
    → Builds item.given built new → Progress item_is start text (at + len) item.state new
progress_more reading item_is fault_is laws start text at state built p item len new low within is read few grown =
    let hand = at_hand reading item_is fault_is laws start text at state built p item (drop len (drop at text)) low read in
    let begins : BeginsWith item_is start text p.items (item.bytes ++ drop len (drop at text)) = subst (BeginsWith item_is start text p.items) hand.0 p.begins in
    let few' : slots_of (given_of p.items ++ item.given ∷ []) ≤ 128 = omega (arith, few, p.built_is.slots, slots_of-append (given_of p.items) (item.given ∷ [])) in
    record {
      items = p.items ++ item ∷ [];
      begins = subst (BeginsWith item_is start text (p.items ++ item ∷ [])) (drop-drop len at text) (begins_more item_is start text p.items item (drop len (drop at text)) begins hand.1 few');
      state_is = state_after-more start p.items item;
      at_is = omega (arith, p.at_is, ap length (text_of-more p.items item), length-append (text_of p.items) item.bytes, ap length is, length-take len (drop at text));
      built_is = subst (λ (gs : List Given). IsBuilt gs new) (sym (given_of-more p.items item)) (grown (given_of p.items) p.built_is);
    }

pub fails_here : {S : Type 0} (reading : S → List ℕ → Reading S) (item_is : S → Item S → List ℕ → Type 0) (fault_is : S → List ℕ → Cause → Type 0) (laws : ReadsItems reading item_is fault_is)
    (start : S) (text : List ℕ) (at : ℕ) (state : S) (built : Built) (p : Progress item_is start text at state built) (cause : Cause) → at < length text → reading state (drop at text) ≡ Failed cause → Faulty item_is fault_is start text at cause
fails_here reading item_is fault_is laws start text at state built p cause low read =
    let some : 1 ≤ length (drop at text) = omega (arith, length-drop at text) in
    no_item p.items (drop at text) p.begins p.at_is (subst (λ (s : _). fault_is s (drop at text) cause) (sym p.state_is) (laws.failed state (drop at text) cause some read))

pub fails_full : {S : Type 0} (reading : S → List ℕ → Reading S) (item_is : S → Item S → List ℕ → Type 0) (fault_is : S → List ℕ → Cause → Type 0) (laws : ReadsItems reading item_is fault_is)
    (start : S) (text : List ℕ) (at : ℕ) (state : S) (built : Built) (p : Progress item_is start text at state built) (item : Item S) (after : List ℕ) → at < length text
    → reading state (drop at text) ≡ Found item after → 128 < built.slots + slots_of (item.given ∷ []) → Faulty item_is fault_is start text at TooManySlots
fails_full reading item_is fault_is laws start text at state built p item after low read many =
    let hand = at_hand reading item_is fault_is laws start text at state built p item after low read in
    one_too_many p.items item after (subst (BeginsWith item_is start text p.items) hand.0 p.begins) p.at_is hand.1 (omega (arith, many, p.built_is.slots, slots_of-append (given_of p.items) (item.given ∷ []))) refl

-- the end is reached
at_end : {S : Type 0} (item_is : S → Item S → List ℕ → Type 0) (start : S) (text : List ℕ) (at : ℕ) (state : S) (built : Built) (p : Progress item_is start text at state built) → length text ≤ at → BeginsWith item_is start text p.items []
at_end item_is start text at state built p high = subst (BeginsWith item_is start text p.items) (drop_all at text high) p.begins

pub fails_empty : {S : Type 0} (item_is : S → Item S → List ℕ → Type 0) (fault_is : S → List ℕ → Cause → Type 0) (start : S) (text : List ℕ) (at : ℕ) (state : S) (built : Built) (p : Progress item_is start text at state built) (pieces : List Piece) → length text ≤ at
    → ((gs : List Given) → IsBuilt gs built → pieces ≡ pieces_of gs) → pieces ≡ [] → Faulty item_is fault_is start text 0 EmptyFormat
fails_empty item_is fault_is start text at state built p pieces high all none = no_piece p.items (at_end item_is start text at state built p high) (sym (all (given_of p.items) p.built_is) ∙ none) refl refl
