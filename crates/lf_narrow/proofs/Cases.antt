-- Facts of answers, by their cases.
use Rattle.std.proofs.Common.{◌≡◌, ℕ, ◌+◌, inl, inr, Bool, true, false, cond, ◌==◌, Option, None, List, [], ◌∷◌, refl, sym, ap, subst, ◌∙◌, arith}
use Rattle.std.specs.Prelude.{Result, Ok, Err, IfErr, IsTrue, IsSome, ◌↔◌, ◌&&◌, not, is_some}
use Rattle.std.specs.Option.{unwrap_or}
use Rattle.std.proofs.lemmas.Bool.Decides.{nat_tests}
use Rattle.lf_syntax.specs.Grammar.{Sentence}
use Rattle.lf_format.specs.declared.slot.Slot.{Slot as OneSlot}
use Rattle.lf_format.specs.declared.format.Piece.{Piece}
use Rattle.lf_format.specs.declared.format.Piece.TheVariants.{Literal, Slot}
use Rattle.lf_format.specs.Keeps.{HoldsSome}
use Rattle.lf_narrow.specs.declared.fault.NarrowFault.{NarrowFault}
use Rattle.lf_narrow.specs.declared.fault.NarrowFault.TheVariants.{Syntax, NoSlot, WrongKind, Empty, OutOfMemory}
use Rattle.lf_narrow.specs.Narrowing.{term}
use Rattle.lf_narrow.specs.Terms.{term_of}
use Rattle.lf_narrow.specs.Effects.{narrowed_slot}
use Rattle.lf_narrow.specs.Narrowed.{Effect, is_named, HasSlot, Stands, IsFirstFault, IsTermFault, IsPartFault, IsSo}

pub err_more : {T : Type 0} (r : Result T NarrowFault) (P Q : NarrowFault → Type 0) → ((f : NarrowFault) → P f → Q f) → IfErr r P → IfErr r Q
err_more (Ok x) P Q more h = tt
err_more (Err f) P Q more h = more f h

module _ (named : Option ℕ) (effect : Effect) where
  no_syntax : (k p : ℕ) (pieces : List Piece) → IsFirstFault named effect k pieces (Syntax p) → ⊥
  no_syntax k p [] h = h
  no_syntax k p (Literal text ∷ pieces) h = no_syntax k p pieces h
  no_syntax k p (Slot slot ∷ pieces) (inl h) = h
  no_syntax k p (Slot slot ∷ pieces) (inr h) = no_syntax (k + 1) p pieces h.1

  -- a fault of the slots is the term's, where the slot that it names is there
  pub term_fault : (pieces : List Piece) (f : NarrowFault) → HasSlot named pieces → IsSo (IsFirstFault named effect 1 pieces) f → IsSo (IsTermFault named effect pieces) f
  term_fault pieces (Syntax p) s h = (s, h)
  term_fault pieces (NoSlot n) s h = absurd (no_number 1 n pieces h)
    where
      no_number : (k n : ℕ) (pieces : List Piece) → IsFirstFault named effect k pieces (NoSlot n) → ⊥
      no_number k n [] h = h
      no_number k n (Literal text ∷ pieces) h = no_number k n pieces h
      no_number k n (Slot slot ∷ pieces) (inl h) = h
      no_number k n (Slot slot ∷ pieces) (inr h) = no_number (k + 1) n pieces h.1
  term_fault pieces (WrongKind n) s h = (s, h)
  term_fault pieces (Empty n) s h = (s, h)
  term_fault pieces OutOfMemory s h = tt

  -- a slot that isn't named stands
  pub unnamed_stands : (k : ℕ) (slot : OneSlot) → HoldsSome slot → is_named named k ≡ false → Stands named effect k slot
  unnamed_stands k slot some f = record {
    acts = λ e. let t : is_named named k ≡ true = ap (λ (o : Option ℕ). is_named o k) e ∙ same k in absurd (let x : true ≡ false = sym t ∙ f in cc);
    some = subst (λ (t : Bool). HoldsSome (cond t (unwrap_or (effect slot) slot) slot)) (sym f) some;
  }
    where
      same : (k : ℕ) → (k == k) ≡ true
      same k = grind (arith, nat_tests)

  -- a slot that is named stands, where the rule acts or not all slots are named, and some value is left
  pub named_stands : (k : ℕ) (slot new : OneSlot) (acts : Bool) → is_named named k ≡ true → (is_some named && not acts) ≡ false → (IsTrue acts ↔ IsSome (effect slot)) → new ≡ unwrap_or (effect slot) slot → HoldsSome new → Stands named effect k slot
  named_stands k slot new acts t f acts_is new_is some = record {
    acts = λ e n.
        let g : (true && not acts) ≡ false = subst (λ (o : Option ℕ). (is_some o && not acts) ≡ false) e f in
        nothing (subst IsSome n (acts_is.0 (yes_of acts g)));
    some = subst (λ (y : Bool). HoldsSome (cond y (unwrap_or (effect slot) slot) slot)) (sym t) (subst HoldsSome new_is some);
  }
    where
      yes_of : (acts : Bool) → (true && not acts) ≡ false → IsTrue acts
      yes_of true g = refl
      yes_of false g = cc

      nothing : IsSome {T = OneSlot} None → ⊥
      nothing e = cc

pub part_fault : (at : ℕ) (part : List ℕ) (pieces : List Piece) (f : NarrowFault) → Sentence term part → IsSo (IsTermFault (term_of part).slot (narrowed_slot (term_of part).rule) pieces) f → IsPartFault at part pieces f
part_fault at part pieces (Syntax p) s h = absurd (no_syntax (term_of part).slot (narrowed_slot (term_of part).rule) 1 p pieces h.1)
part_fault at part pieces (NoSlot n) s h = (s, h)
part_fault at part pieces (WrongKind n) s h = (s, h)
part_fault at part pieces (Empty n) s h = (s, h)
part_fault at part pieces OutOfMemory s h = tt
