-- The parts of a text, one after another.
use Rattle.std.proofs.Common.{◌≡◌, ℕ, ◌+◌, ◌<◌, ◌≤◌, inl, inr, List, [], ◌∷◌, ◌++◌, length, refl, sym, ap, subst, ◌∙◌, length-append, arith}
use Rattle.std.specs.Prelude.{Some, Err}
use Rattle.lf_syntax.specs.Grammar.{Each}
use Rattle.lf_format.specs.declared.slot.Slot.{Slot as OneSlot}
use Rattle.lf_map.specs.declared.fault.MapFault.{MapFault}
use Rattle.lf_map.specs.declared.fault.MapFault.TheVariants.{Syntax, NoSlot, Twice, Untyped, Unfilled, OutOfMemory}
use Rattle.lf_map.specs.declared.parts.Mode.TheVariants.{Outside}
use Rattle.lf_map.specs.Map.{IsAssign, IsMap}
use Rattle.lf_map.specs.Letters.{parts_of, front_part, after_part}
use Rattle.lf_map.specs.Filling.{Answer, Form, IsSo, IsPartFault, IsFine, part_fault, form_after, first_blank, finished, Reads}
use Rattle.lf_map.proofs.Leading.{map_parts}
use Rattle.lf_map.proofs.Parted.{further_parts, parts-front, front-after}

-- What is answered of the rest is answered of the text, and if all parts of the text are assignments, so are those of the rest.
pub record Going (source target : List OneSlot) (text : List ℕ) (start form : Form) (rest : List ℕ) : Type 0 where
  pub carry : (answer : Answer) → Reads source target text (parts_of rest) form answer → Reads source target text (parts_of text) start answer
  pub each : Each IsAssign (parts_of text) → Each IsAssign (parts_of rest)
  pub shorter : length rest ≤ length text

pub begin : (source target : List OneSlot) (text : List ℕ) (start : Form) → Going source target text start start text
begin source target text start = record { carry = λ answer h. h; each = λ h. h; shorter = omega arith }

module _ (source target : List OneSlot) (text : List ℕ) (start form : Form) (rest : List ℕ) (g : Going source target text start form rest) (part more : List ℕ) (p : part ≡ front_part Outside rest) (m : more ≡ after_part Outside rest) where
  parts_are : parts_of rest ≡ part ∷ further_parts more
  parts_are =
      parts-front Outside rest ∙ ap (λ (w : List ℕ). w ∷ further_parts (after_part Outside rest)) (sym p)
      ∙ ap (λ (w : List ℕ). part ∷ further_parts w) (sym m)

  rest_length : length rest ≡ length part + length more
  rest_length =
      ap (λ (w : List ℕ). length w) (sym (front-after Outside rest) ∙ ap (λ (w : List ℕ). w ++ after_part Outside rest) (sym p) ∙ ap (λ (w : List ℕ). part ++ w) (sym m))
      ∙ length-append part more

  pub part_short : length part ≤ length text
  part_short = let h = g.shorter in omega (arith, rest_length, h)

  pub is_part : IsMap text → IsAssign part
  is_part h = (subst (λ (ps : List (List ℕ)). Each IsAssign ps) parts_are (g.each (map_parts text h))).0

  carried : (answer : Answer) → Reads source target text (part ∷ further_parts more) form answer → Reads source target text (parts_of text) start answer
  carried answer h = g.carry answer (subst (λ (ps : List (List ℕ)). Reads source target text ps form answer) (sym parts_are) h)

  faulty : (f : MapFault) → IsAssign part → part_fault source target part form ≡ Some f → Reads source target text (parts_of text) start (Err f)
  faulty f a e = carried (Err f) (inr (inl (record { assign = a; fault = f; has = e; is = refl })))

  pub fails : (f : MapFault) → IsPartFault source target text part form f → IsSo (λ one. Reads source target text (parts_of text) start (Err one)) f
  fails OutOfMemory h = tt
  fails (Syntax place) (inl h) = carried (Err (Syntax place)) (inl (record { none = h.0; place = place; at = h.1; is = refl }))
  fails (Syntax place) (inr h) = faulty (Syntax place) h.0 h.1
  fails (NoSlot n) (inl h) = absurd h.1
  fails (NoSlot n) (inr h) = faulty (NoSlot n) h.0 h.1
  fails (Twice n) (inl h) = absurd h.1
  fails (Twice n) (inr h) = faulty (Twice n) h.0 h.1
  fails (Untyped n) (inl h) = absurd h.1
  fails (Untyped n) (inr h) = faulty (Untyped n) h.0 h.1
  fails (Unfilled n) (inl h) = absurd h.1
  fails (Unfilled n) (inr h) = faulty (Unfilled n) h.0 h.1

  module _ (after : Form) (fine : IsFine source target part form) (is : after ≡ form_after part form) where
    on : (ps : List (List ℕ)) (answer : Answer) → further_parts more ≡ ps → Reads source target text ps after answer → Reads source target text (parts_of text) start answer
    on ps answer e h =
        carried answer (subst (λ (qs : List (List ℕ)). Reads source target text (part ∷ qs) form answer) (sym e)
        (inr (inr (fine, subst (λ (x : Form). Reads source target text ps x answer) is h))))

    pub ends : more ≡ [] → Reads source target text (parts_of text) start (finished after (first_blank 1 after))
    ends e = on [] (finished after (first_blank 1 after)) (ap further_parts e) refl

    module _ (b : ℕ) (further : List ℕ) (e : more ≡ b ∷ further) where
      pub smaller : length further < length rest
      smaller = let l : length more ≡ length (b ∷ further) = ap (λ (w : List ℕ). length w) e in omega (arith, rest_length, l)

      pub goes : Going source target text start after further
      goes = record {
        carry = λ answer h. on (parts_of further) answer (ap further_parts e) h;
        each = λ h. (subst (λ (ps : List (List ℕ)). Each IsAssign ps) (parts_are ∙ ap (λ (w : List ℕ). part ∷ further_parts w) e) (g.each h)).1;
        shorter = let s = g.shorter in omega (arith, smaller, s);
      }

-- the same, where the form is as long as at the start
pub record Counted (source target : List OneSlot) (text : List ℕ) (start form : Form) (rest : List ℕ) (first now : ℕ) : Type 0 where
  pub going : Going source target text start form rest
  pub same : now ≡ first

pub begin_counted : (source target : List OneSlot) (text : List ℕ) (start : Form) (n : ℕ) → Counted source target text start start text n n
begin_counted source target text start n = record { going = begin source target text start; same = refl }
