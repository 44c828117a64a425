-- A text has an answer, and only one.
use Rattle.std.proofs.Common.{◌≡◌, ℕ, ◌⊎◌, inl, inr, List, [], ◌∷◌, refl, sym, ap, ◌∙◌}
use Rattle.std.specs.Prelude.{Option, None, Some, Err}
use Rattle.lf_syntax.specs.Grammar.{Each}
use Rattle.lf_syntax.specs.Places.{FaultPlace}
use Rattle.lf_syntax.specs.PlaceLaws.{one_place}
use Rattle.lf_format.specs.declared.slot.Slot.{Slot as OneSlot}
use Rattle.lf_map.specs.declared.fault.MapFault.{MapFault}
use Rattle.lf_map.specs.declared.fault.MapFault.TheVariants.{Syntax}
use Rattle.lf_map.specs.Map.{IsAssign, IsMap}
use Rattle.lf_map.specs.Letters.{parts_of}
use Rattle.lf_map.specs.Filling.{Answer, Form, HasFault, IsFine, part_fault, form_after, first_blank, finished, Reads}
use Rattle.lf_map.proofs.Leading.{map_parts}

fault_in : MapFault → Option MapFault → MapFault
fault_in other None = other
fault_in other (Some f) = f

abbrev pub Placed : (List ℕ → Type 0) → List ℕ → Type 0
Placed L text = L text ⊎ ((p : ℕ) × FaultPlace L text p)

module _ (source target : List OneSlot) (text : List ℕ) where
  same_fault : (part : List ℕ) (form : Form) (one other : Answer) → HasFault source target part form one → HasFault source target part form other → one ≡ other
  unfolding fault_in
  same_fault part form one other a b =
      a.is ∙ ap (λ (f : MapFault). Err f) (ap (λ (o : Option MapFault). fault_in a.fault o) (sym a.has ∙ b.has)) ∙ sym b.is

  no_fault : (part : List ℕ) (form : Form) (one : Answer) → HasFault source target part form one → IsFine source target part form → ⊥
  no_fault part form one a b = let e = sym a.has ∙ b.fine in absurd (cc)

  pub answer_one : (parts : List (List ℕ)) (form : Form) (one other : Answer) → Reads source target text parts form one → Reads source target text parts form other → one ≡ other
  answer_one [] form one other h e = h ∙ sym e
  answer_one (part ∷ parts) form one other (inl a) (inl b) = a.is ∙ ap (λ (n : ℕ). Err (Syntax n)) (one_place IsMap text a.place b.place a.at b.at) ∙ sym b.is
  answer_one (part ∷ parts) form one other (inl a) (inr (inl b)) = absurd (a.none b.assign)
  answer_one (part ∷ parts) form one other (inl a) (inr (inr b)) = absurd (a.none b.0.assign)
  answer_one (part ∷ parts) form one other (inr (inl a)) (inl b) = absurd (b.none a.assign)
  answer_one (part ∷ parts) form one other (inr (inr a)) (inl b) = absurd (b.none a.0.assign)
  answer_one (part ∷ parts) form one other (inr (inl a)) (inr (inl b)) = same_fault part form one other a b
  answer_one (part ∷ parts) form one other (inr (inl a)) (inr (inr b)) = absurd (no_fault part form one a b.0)
  answer_one (part ∷ parts) form one other (inr (inr a)) (inr (inl b)) = absurd (no_fault part form other b a.0)
  answer_one (part ∷ parts) form one other (inr (inr a)) (inr (inr b)) = answer_one parts (form_after part form) one other a.1 b.1

  module _ (assigns : (w : List ℕ) → Placed IsAssign w) (maps : (w : List ℕ) → Placed IsMap w) where
    refused : (part : List ℕ) (parts : List (List ℕ)) (form : Form) → (IsAssign part → ⊥) → (IsMap text → IsAssign part) → (answer : Answer) × Reads source target text (part ∷ parts) form answer
    refused part parts form n k = elim (maps text) [
      | inl m ↦ absurd (n (k m))
      | inr p ↦ (Err (Syntax p.0), inl (record { none = n; place = p.0; at = p.1; is = refl }))
    ]

    by_fault : (part : List ℕ) (parts : List (List ℕ)) (form : Form) (o : Option MapFault) → part_fault source target part form ≡ o → IsAssign part
        → ((answer : Answer) × Reads source target text parts (form_after part form) answer) → (answer : Answer) × Reads source target text (part ∷ parts) form answer
    by_fault part parts form (Some f) e a more = (Err f, inr (inl (record { assign = a; fault = f; has = e; is = refl })))
    by_fault part parts form None e a more = (more.0, inr (inr (record { assign = a; fine = e }, more.1)))

    answered : (parts : List (List ℕ)) (form : Form) → (IsMap text → Each IsAssign parts) → (answer : Answer) × Reads source target text parts form answer
    answered [] form k = (finished form (first_blank 1 form), refl)
    answered (part ∷ parts) form k = elim (assigns part) [
      | inl a ↦ by_fault part parts form (part_fault source target part form) refl a (answered parts (form_after part form) (λ m. (k m).1))
      | inr p ↦ refused part parts form p.1.fault (λ m. (k m).0)
    ]

    pub some_answer : (form : Form) → (answer : Answer) × Reads source target text (parts_of text) form answer
    some_answer form = answered (parts_of text) form (map_parts text)
