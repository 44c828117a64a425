-- A text and pieces have an answer.
use Rattle.std.proofs.Common.{◌≡◌, ℕ, ◌+◌, ◌<◌, ◌⊎◌, inl, inr, Option, None, Some, List, [], ◌∷◌, length, refl, sym, ap, ◌∙◌}
use Rattle.std.specs.Prelude.{Result, Ok, Err}
use Rattle.std.proofs.lemmas.Bool.{cases_eq, cases_lt}
use Rattle.lf_syntax.specs.Grammar.{Grammar, Sentence, Each}
use Rattle.lf_syntax.specs.Places.{FaultPlace}
use Rattle.lf_syntax.specs.Cuts.{cuts}
use Rattle.lf_syntax.specs.CutLaws.{cut_parts}
use Rattle.lf_format.specs.declared.slot.Slot.{Slot as OneSlot}
use Rattle.lf_format.specs.declared.format.Piece.{Piece}
use Rattle.lf_format.specs.declared.format.Piece.TheVariants.{Literal, Slot}
use Rattle.lf_format.specs.Keeps.{slots_in}
use Rattle.lf_narrow.specs.declared.fault.NarrowFault.{NarrowFault}
use Rattle.lf_narrow.specs.declared.fault.NarrowFault.TheVariants.{Syntax, NoSlot, WrongKind, Empty, OutOfMemory}
use Rattle.lf_narrow.specs.Narrowing.{byte, term, narrowing}
use Rattle.lf_narrow.specs.Terms.{term_of}
use Rattle.lf_narrow.specs.Effects.{narrowed_slot}
use Rattle.lf_narrow.specs.Narrowed.{Effect, slot_after, pieces_after, HasSlot, Acts, Stands, EachStands, IsSlotFault, IsFirstFault, IsFine, IsTermFault, Narrows}
use Rattle.lf_narrow.proofs.Decides.{some_decided}
use Rattle.lf_narrow.proofs.Kept.{none_some}

module _ (named : Option ℕ) (effect : Effect) where
  -- the rule acts on the slot, or the slot is named and it doesn't
  acts_or_not : (k : ℕ) (slot : OneSlot) (n : Option ℕ) (o : Option OneSlot) → named ≡ n → effect slot ≡ o → Acts named effect k slot ⊎ ((named ≡ Some k) × (effect slot ≡ None))
  acts_or_not k slot n (Some after) e f = inl (λ is none. none_some after (sym none ∙ f))
  acts_or_not k slot None None e f = inl (λ is none. none_some k (sym e ∙ is))
  acts_or_not k slot (Some n) None e f = elim (cases_eq n k) [
    | inl same ↦ inr (e ∙ ap (λ (m : ℕ). Some m) same, f)
    | inr other ↦ inl (λ is none. other (number n k (sym e ∙ is)))
  ]
    where
      number : (n k : ℕ) → Some n ≡ Some k → n ≡ k
      number n k e = cc

  slot_stands_or_not : (k : ℕ) (slot : OneSlot) → Stands named effect k slot ⊎ ((f : NarrowFault) × IsSlotFault named effect k slot f)
  slot_stands_or_not k slot = elim (acts_or_not k slot named (effect slot) refl refl) [
    | inr wrong ↦ inr (WrongKind k, (refl, wrong.0, wrong.1))
    | inl acts ↦ elim (some_decided (slot_after named effect k slot)) [
      | inl some ↦ inl (record { acts = acts; some = some })
      | inr empty ↦ inr (Empty k, (refl, acts, empty))
    ]
  ]

  first_or_none : (k : ℕ) (pieces : List Piece) → EachStands named effect k pieces ⊎ ((f : NarrowFault) × IsFirstFault named effect k pieces f)
  first_or_none k [] = inl tt
  first_or_none k (Literal text ∷ pieces) = first_or_none k pieces
  first_or_none k (Slot slot ∷ pieces) = elim (slot_stands_or_not k slot) [
    | inr fault ↦ inr (fault.0, inl fault.1)
    | inl stands ↦ elim (first_or_none (k + 1) pieces) [
      | inl rest ↦ inl (stands, rest)
      | inr fault ↦ inr (fault.0, inr (stands, fault.1))
    ]
  ]

  is_named_fault : (pieces : List Piece) (f : NarrowFault) → HasSlot named pieces → IsFirstFault named effect 1 pieces f → IsTermFault named effect pieces f
  is_named_fault pieces (Syntax n) s h = (s, h)
  is_named_fault pieces (NoSlot n) s h = absurd (no_number 1 n pieces h)
    where
      no_number : (k n : ℕ) (pieces : List Piece) → IsFirstFault named effect k pieces (NoSlot n) → ⊥
      no_number k n [] h = h
      no_number k n (Literal text ∷ pieces) h = no_number k n pieces h
      no_number k n (Slot slot ∷ pieces) (inl h) = h
      no_number k n (Slot slot ∷ pieces) (inr h) = no_number (k + 1) n pieces h.1
  is_named_fault pieces (WrongKind n) s h = (s, h)
  is_named_fault pieces (Empty n) s h = (s, h)
  is_named_fault pieces OutOfMemory s h = (s, h)

  there_or_not : (pieces : List Piece) (n : Option ℕ) → named ≡ n → HasSlot n pieces ⊎ ((k : ℕ) × (n ≡ Some k) × (length (slots_in pieces) < k))
  there_or_not pieces None e = inl tt
  there_or_not pieces (Some k) e = elim (cases_lt (length (slots_in pieces)) k) [
    | inl less ↦ inr (k, refl, less)
    | inr there ↦ inl there
  ]

  pub fine_or_fault : (pieces : List Piece) → IsFine named effect pieces ⊎ ((f : NarrowFault) × IsTermFault named effect pieces f)
  fine_or_fault pieces = elim (there_or_not pieces named refl) [
    | inr none ↦ inr (NoSlot none.0, (none.1, none.2))
    | inl there ↦ elim (first_or_none 1 pieces) [
      | inl each ↦ inl (there, each)
      | inr fault ↦ inr (fault.0, is_named_fault pieces fault.0 there fault.1)
    ]
  ]

-- each text is a sentence or has a place
abbrev pub Decides : Grammar → Type 0
Decides g = (text : List ℕ) → Sentence g text ⊎ ((p : ℕ) × FaultPlace (Sentence g) text p)

module _ (decides : Decides term) (text : List ℕ) where
  answered : (parts : List (List ℕ)) (pieces : List Piece) → Each (Sentence term) parts ⊎ ((p : ℕ) × FaultPlace (Sentence narrowing) text p) → (answer : Result (List Piece) NarrowFault) × Narrows text parts pieces answer
  answered [] pieces known = (Ok pieces, refl)
  answered (part ∷ parts) pieces known = elim (decides part) [
    | inr bad ↦ elim known [
      | inl each ↦ absurd (bad.1.fault each.0)
      | inr place ↦ (Err (Syntax place.0), inl (record { none = bad.1.fault; place = place.0; at = place.1; is = refl }))
    ]
    | inl sentence ↦ elim (fine_or_fault (term_of part).slot (narrowed_slot (term_of part).rule) pieces) [
      | inr fault ↦ (Err fault.0, inr (inl (record { a_term = sentence; fault = fault.0; has_fault = fault.1; is = refl })))
      | inl fine ↦
          let rest : Each (Sentence term) parts ⊎ ((p : ℕ) × FaultPlace (Sentence narrowing) text p) = elim known [ inl each ↦ inl each.1 | inr place ↦ inr place ] in
          let more = answered parts (pieces_after (term_of part).slot (narrowed_slot (term_of part).rule) 1 pieces) rest in
          (more.0, inr (inr (sentence, fine, more.1)))
    ]
  ]

-- AN ANSWER
pub some_answer : Decides term → Decides narrowing → (text : List ℕ) (pieces : List Piece) → (answer : Result (List Piece) NarrowFault) × Narrows text (cuts 59 text) pieces answer
some_answer terms texts text pieces = answered terms text (cuts 59 text) pieces (elim (texts text) [
  | inl sentence ↦ inl (cut_parts 59 (byte 0) term 0 text refl refl sentence)
  | inr place ↦ inr place
])
