-- A text and pieces have at most one answer.
use Rattle.std.proofs.Common.{◌≡◌, ℕ, ◌+◌, ◌<◌, ◌≤◌, inl, inr, Option, Some, List, [], ◌∷◌, length, sym, ap, subst, ◌∙◌, arith}
use Rattle.std.specs.Prelude.{Result, Err, IfSome}
use Rattle.lf_syntax.specs.Grammar.{Sentence}
use Rattle.lf_syntax.specs.PlaceLaws.{one_place}
use Rattle.lf_format.specs.declared.slot.Slot.{Slot as OneSlot}
use Rattle.lf_format.specs.declared.format.Piece.{Piece}
use Rattle.lf_format.specs.declared.format.Piece.TheVariants.{Literal, Slot}
use Rattle.lf_format.specs.Keeps.{slots_in}
use Rattle.lf_narrow.specs.declared.fault.NarrowFault.{NarrowFault}
use Rattle.lf_narrow.specs.declared.fault.NarrowFault.TheVariants.{Syntax, NoSlot, WrongKind, Empty, OutOfMemory}
use Rattle.lf_narrow.specs.Narrowing.{narrowing}
use Rattle.lf_narrow.specs.Terms.{term_of}
use Rattle.lf_narrow.specs.Effects.{narrowed_slot}
use Rattle.lf_narrow.specs.Narrowed.{Effect, pieces_after, HasSlot, Stands, EachStands, IsSlotFault, IsFirstFault, IsFine, IsTermFault, Narrows}

module _ (named : Option ℕ) (effect : Effect) where
  slot_one : (k : ℕ) (slot : OneSlot) (f g : NarrowFault) → IsSlotFault named effect k slot f → IsSlotFault named effect k slot g → f ≡ g
  slot_one k slot (WrongKind m) (WrongKind n) h e = ap WrongKind (h.0 ∙ sym e.0)
  slot_one k slot (WrongKind m) (Empty n) h e = absurd (e.1 h.1 h.2)
  slot_one k slot (WrongKind m) g h e = absurd e
  slot_one k slot (Empty m) (WrongKind n) h e = absurd (h.1 e.1 e.2)
  slot_one k slot (Empty m) (Empty n) h e = ap Empty (h.0 ∙ sym e.0)
  slot_one k slot (Empty m) g h e = absurd e
  slot_one k slot f g h e = absurd h

  slot_stands : (k : ℕ) (slot : OneSlot) (f : NarrowFault) → Stands named effect k slot → IsSlotFault named effect k slot f → ⊥
  slot_stands k slot (WrongKind n) s h = s.acts h.1 h.2
  slot_stands k slot (Empty n) s h = h.2 s.some
  slot_stands k slot f s h = h

  first_one : (k : ℕ) (pieces : List Piece) (f g : NarrowFault) → IsFirstFault named effect k pieces f → IsFirstFault named effect k pieces g → f ≡ g
  first_one k [] f g h e = absurd h
  first_one k (Literal text ∷ pieces) f g h e = first_one k pieces f g h e
  first_one k (Slot slot ∷ pieces) f g (inl h) (inl e) = slot_one k slot f g h e
  first_one k (Slot slot ∷ pieces) f g (inl h) (inr e) = absurd (slot_stands k slot f e.0 h)
  first_one k (Slot slot ∷ pieces) f g (inr h) (inl e) = absurd (slot_stands k slot g h.0 e)
  first_one k (Slot slot ∷ pieces) f g (inr h) (inr e) = first_one (k + 1) pieces f g h.1 e.1

  first_stands : (k : ℕ) (pieces : List Piece) (f : NarrowFault) → EachStands named effect k pieces → IsFirstFault named effect k pieces f → ⊥
  first_stands k [] f s h = h
  first_stands k (Literal text ∷ pieces) f s h = first_stands k pieces f s h
  first_stands k (Slot slot ∷ pieces) f s (inl h) = slot_stands k slot f s.0 h
  first_stands k (Slot slot ∷ pieces) f s (inr h) = first_stands (k + 1) pieces f s.1 h.1

  not_there : (pieces : List Piece) (m : ℕ) → named ≡ Some m → length (slots_in pieces) < m → HasSlot named pieces → ⊥
  not_there pieces m e less h =
      let there : m ≤ length (slots_in pieces) = subst (λ (o : Option ℕ). IfSome o (λ k. k ≤ length (slots_in pieces))) e h in
      omega (arith, less, there)

  number_one : (m n : ℕ) → named ≡ Some m → named ≡ Some n → m ≡ n
  number_one m n e f = same m n (sym e ∙ f)
    where
      same : (m n : ℕ) → Some m ≡ Some n → m ≡ n
      same m n e = cc

  pub term_one : (pieces : List Piece) (f g : NarrowFault) → IsTermFault named effect pieces f → IsTermFault named effect pieces g → f ≡ g
  term_one pieces (NoSlot m) (NoSlot n) h e = ap NoSlot (number_one m n h.0 e.0)
  term_one pieces (NoSlot m) (Syntax n) h e = absurd (not_there pieces m h.0 h.1 e.0)
  term_one pieces (NoSlot m) (WrongKind n) h e = absurd (not_there pieces m h.0 h.1 e.0)
  term_one pieces (NoSlot m) (Empty n) h e = absurd (not_there pieces m h.0 h.1 e.0)
  term_one pieces (NoSlot m) OutOfMemory h e = absurd (not_there pieces m h.0 h.1 e.0)
  term_one pieces (Syntax m) (NoSlot n) h e = absurd (not_there pieces n e.0 e.1 h.0)
  term_one pieces (WrongKind m) (NoSlot n) h e = absurd (not_there pieces n e.0 e.1 h.0)
  term_one pieces (Empty m) (NoSlot n) h e = absurd (not_there pieces n e.0 e.1 h.0)
  term_one pieces OutOfMemory (NoSlot n) h e = absurd (not_there pieces n e.0 e.1 h.0)
  term_one pieces f g h e = first_one 1 pieces f g h.1 e.1

  pub fine_has_none : (pieces : List Piece) (f : NarrowFault) → IsFine named effect pieces → IsTermFault named effect pieces f → ⊥
  fine_has_none pieces (NoSlot m) s h = not_there pieces m h.0 h.1 s.0
  fine_has_none pieces f s h = first_stands 1 pieces f s.1 h.1

-- AT MOST ONE ANSWER
pub answer_one : (text : List ℕ) (parts : List (List ℕ)) (pieces : List Piece) (one other : Result (List Piece) NarrowFault) → Narrows text parts pieces one → Narrows text parts pieces other → one ≡ other
answer_one text [] pieces one other h e = h ∙ sym e
answer_one text (part ∷ parts) pieces one other (inl a) (inl b) =
    a.is ∙ ap (λ (n : ℕ). Err (Syntax n)) (one_place (Sentence narrowing) text a.place b.place a.at b.at) ∙ sym b.is
answer_one text (part ∷ parts) pieces one other (inl a) (inr (inl b)) = absurd (a.none b.a_term)
answer_one text (part ∷ parts) pieces one other (inl a) (inr (inr b)) = absurd (a.none b.0)
answer_one text (part ∷ parts) pieces one other (inr (inl a)) (inl b) = absurd (b.none a.a_term)
answer_one text (part ∷ parts) pieces one other (inr (inr a)) (inl b) = absurd (b.none a.0)
answer_one text (part ∷ parts) pieces one other (inr (inl a)) (inr (inl b)) =
    a.is ∙ ap (λ (f : NarrowFault). Err f) (term_one (term_of part).slot (narrowed_slot (term_of part).rule) pieces a.fault b.fault a.has_fault b.has_fault) ∙ sym b.is
answer_one text (part ∷ parts) pieces one other (inr (inl a)) (inr (inr b)) = absurd (fine_has_none (term_of part).slot (narrowed_slot (term_of part).rule) pieces a.fault b.1 a.has_fault)
answer_one text (part ∷ parts) pieces one other (inr (inr a)) (inr (inl b)) = absurd (fine_has_none (term_of part).slot (narrowed_slot (term_of part).rule) pieces b.fault a.1 b.has_fault)
answer_one text (part ∷ parts) pieces one other (inr (inr a)) (inr (inr b)) =
    answer_one text parts (pieces_after (term_of part).slot (narrowed_slot (term_of part).rule) 1 pieces) one other a.2 b.2
