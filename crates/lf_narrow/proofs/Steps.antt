-- The parts of a text, one after another.
use Rattle.std.proofs.Common.{◌≡◌, ℕ, ◌+◌, ◌<◌, ◌≤◌, inl, inr, eqb, Bool, true, false, cond, List, [], ◌∷◌, ◌++◌, length, refl, sym, ap, subst, ◌∙◌, append_assoc, length-append, arith}
use Rattle.std.specs.Prelude.{Result, Ok, Err}
use Rattle.lf_syntax.specs.declared.leaf.Leaf.TheVariants.{End}
use Rattle.lf_syntax.specs.Grammar.{Sentence, Each, leaf}
use Rattle.lf_syntax.specs.Places.{FaultPlace}
use Rattle.lf_syntax.specs.LeafLaws.{bool_cases, eqb-is}
use Rattle.lf_syntax.specs.Cuts.{cuts, front_of, from_first, further_cuts, ended}
use Rattle.lf_syntax.specs.FirstFaultLaws.{front-from, cuts-front, first_fault}
use Rattle.lf_format.specs.declared.format.Piece.{Piece}
use Rattle.lf_format.specs.Keeps.{KeepsFormat}
use Rattle.lf_narrow.specs.declared.fault.NarrowFault.{NarrowFault}
use Rattle.lf_narrow.specs.declared.fault.NarrowFault.TheVariants.{Syntax, NoSlot, WrongKind, Empty, OutOfMemory}
use Rattle.lf_narrow.specs.Narrowing.{term, narrowing}
use Rattle.lf_narrow.specs.Terms.{term_of}
use Rattle.lf_narrow.specs.Effects.{narrowed_slot}
use Rattle.lf_narrow.specs.Narrowed.{pieces_after, IsFine, IsPartFault, NoTerm, Narrows, IsSo}
use Rattle.lf_narrow.proofs.Kept.{keeps_after, rule_follows}

-- What the parts before `rest` made of the pieces: what is answered of the rest is answered of the text.
pub record Going (text : List ℕ) (start pieces : List Piece) (at : ℕ) (rest : List ℕ) : Type 0 where
  pub done : List (List ℕ)
  pub each : Each (Sentence term) done
  pub text_is : text ≡ ended 59 done ++ rest
  pub at_is : at ≡ length (ended 59 done)
  pub kept : KeepsFormat pieces
  pub carry : (answer : Result (List Piece) NarrowFault) → Narrows text (cuts 59 rest) pieces answer → Narrows text (cuts 59 text) start answer

pub begin : (text : List ℕ) (pieces : List Piece) → KeepsFormat pieces → Going text pieces pieces 0 text
begin text pieces kept = record { done = []; each = tt; text_is = refl; at_is = refl; kept = kept; carry = λ answer h. h }

-- the pieces after a part that is a term
abbrev pub part_after : List ℕ → List Piece → List Piece
part_after part pieces = pieces_after (term_of part).slot (narrowed_slot (term_of part).rule) 1 pieces

abbrev pub PartIsFine : List ℕ → List Piece → Type 0
PartIsFine part pieces = IsFine (term_of part).slot (narrowed_slot (term_of part).rule) pieces

pub nothing_left : (w : List ℕ) → length w ≡ 0 → w ≡ []
nothing_left [] e = refl
nothing_left (x ∷ w) e = absurd (omega (arith, e))

first_same : (x b : ℕ) (w further : List ℕ) → x ∷ w ≡ b ∷ further → b ≡ x
first_same x b w further e = cc

-- What is left from the first such byte on begins with it.
begins : (w : List ℕ) (b : ℕ) (further : List ℕ) → from_first 59 w ≡ b ∷ further → b ≡ 59
begins [] b further e = absurd (cc)
begins (x ∷ w) b further e =
    let by_test : (y : Bool) → eqb x 59 ≡ y → cond y (x ∷ w) (from_first 59 w) ≡ b ∷ further =
    λ y t. subst (λ (z : Bool). cond z (x ∷ w) (from_first 59 w) ≡ b ∷ further) t e in
    elim (bool_cases (eqb x 59)) [
      | inl t ↦ first_same x b w further (by_test true t) ∙ eqb-is x 59 t
      | inr f ↦ begins w b further (by_test false f)
    ]

ended-more : (done : List (List ℕ)) (w : List ℕ) → ended 59 (done ++ (w ∷ [])) ≡ ended 59 done ++ (w ++ 59 ∷ [])
ended-more [] w = refl
ended-more (v ∷ done) w =
    ap (λ (x : List ℕ). v ++ 59 ∷ x) (ended-more done w) ∙ sym (append_assoc v (59 ∷ ended 59 done) (w ++ 59 ∷ []))

each-more : (done : List (List ℕ)) (w : List ℕ) → Each (Sentence term) done → Sentence term w → Each (Sentence term) (done ++ (w ∷ []))
each-more [] w h k = (k, tt)
each-more (v ∷ done) w h k = (h.0, each-more done w h.1 k)

module _ (text : List ℕ) (start pieces : List Piece) (at : ℕ) (rest : List ℕ) (g : Going text start pieces at rest) where
  abbrev part : List ℕ
  part = front_of 59 rest

  abbrev more : List ℕ
  more = from_first 59 rest

  rest_length : length rest ≡ length part + length more
  rest_length = ap (λ (w : List ℕ). length w) (sym (front-from 59 rest)) ∙ length-append part more

  text_length : length text ≡ at + length rest
  text_length = ap (λ (w : List ℕ). length w) g.text_is ∙ length-append (ended 59 g.done) rest ∙ ap (λ (n : ℕ). n + length rest) (sym g.at_is)

  pub room : at + length part ≤ length text
  room = omega (arith, rest_length, text_length)

  -- an answer of the first part and what follows is the text's
  carried : (answer : Result (List Piece) NarrowFault) → Narrows text (part ∷ further_cuts 59 more) pieces answer → Narrows text (cuts 59 text) start answer
  carried answer h = g.carry answer (subst (λ (ps : List (List ℕ)). Narrows text ps pieces answer) (sym (cuts-front 59 rest)) h)

  no_term : (place n : ℕ) → FaultPlace (Sentence term) part place → n ≡ at + place → NoTerm text part (Err (Syntax n))
  no_term place n f e = record {
    none = f.fault;
    place = n;
    at =
        let p : FaultPlace (Sentence narrowing) (ended 59 g.done ++ rest) (length (ended 59 g.done) + place) = first_fault 59 (leaf End) term 0 refl refl g.done g.each rest place f in
        let q : FaultPlace (Sentence narrowing) text (length (ended 59 g.done) + place) = subst (λ (w : List ℕ). FaultPlace (Sentence narrowing) w (length (ended 59 g.done) + place)) (sym g.text_is) p in
        subst (λ (m : ℕ). FaultPlace (Sentence narrowing) text m) (let a = g.at_is in omega (arith, a, e)) q;
    is = refl;
  }

  pub fails : (f : NarrowFault) → IsPartFault at part pieces f → IsSo (λ one. Narrows text (cuts 59 text) start (Err one)) f
  fails (Syntax n) h = carried (Err (Syntax n)) (inl (no_term h.0 n h.1 h.2))
  fails (NoSlot n) h = carried (Err (NoSlot n)) (inr (inl (record { a_term = h.0; fault = NoSlot n; has_fault = h.1; is = refl })))
  fails (WrongKind n) h = carried (Err (WrongKind n)) (inr (inl (record { a_term = h.0; fault = WrongKind n; has_fault = h.1; is = refl })))
  fails (Empty n) h = carried (Err (Empty n)) (inr (inl (record { a_term = h.0; fault = Empty n; has_fault = h.1; is = refl })))
  fails OutOfMemory h = tt

  module _ (sentence : Sentence term part) (fine : PartIsFine part pieces) where
    pub kept_after : KeepsFormat (part_after part pieces)
    kept_after = keeps_after (term_of part).slot (narrowed_slot (term_of part).rule) (rule_follows (term_of part).rule) pieces g.kept fine.1

    pub ends : more ≡ [] → Narrows text (cuts 59 text) start (Ok (part_after part pieces))
    ends e =
        let h : Narrows text (part ∷ further_cuts 59 []) pieces (Ok (part_after part pieces)) = inr (inr (sentence, fine, refl)) in
        carried (Ok (part_after part pieces)) (subst (λ (w : List ℕ). Narrows text (part ∷ further_cuts 59 w) pieces (Ok (part_after part pieces))) (sym e) h)

    module _ (b : ℕ) (further : List ℕ) (e : more ≡ b ∷ further) where
      is_semicolon : b ≡ 59
      is_semicolon = begins rest b further e

      rest_is : rest ≡ part ++ 59 ∷ further
      rest_is = sym (front-from 59 rest) ∙ ap (λ (w : List ℕ). part ++ w) (e ∙ ap (λ (n : ℕ). n ∷ further) is_semicolon)

      pub shorter : length further < length rest
      shorter = let l : length more ≡ length (b ∷ further) = ap (λ (w : List ℕ). length w) e in omega (arith, rest_length, l)

      pub goes : Going text start (part_after part pieces) (at + (length part + 1)) further
      goes = record {
        done = g.done ++ (part ∷ []);
        each = each-more g.done part g.each sentence;
        text_is =
            g.text_is ∙ ap (λ (w : List ℕ). ended 59 g.done ++ w) rest_is
            ∙ ap (λ (w : List ℕ). ended 59 g.done ++ w) (sym (append_assoc part (59 ∷ []) further))
            ∙ sym (append_assoc (ended 59 g.done) (part ++ 59 ∷ []) further)
            ∙ ap (λ (w : List ℕ). w ++ further) (sym (ended-more g.done part));
        at_is =
            let l : length (ended 59 (g.done ++ (part ∷ []))) ≡ length (ended 59 g.done) + (length part + 1) =
            ap (λ (w : List ℕ). length w) (ended-more g.done part) ∙ length-append (ended 59 g.done) (part ++ 59 ∷ []) ∙ ap (λ (n : ℕ). length (ended 59 g.done) + n) (length-append part (59 ∷ [])) in
            let a = g.at_is in omega (arith, l, a);
        kept = kept_after;
        carry = λ answer h. carried answer (subst (λ (w : List ℕ). Narrows text (part ∷ further_cuts 59 w) pieces answer) (sym e) (inr (inr (sentence, fine, h))));
      }

  -- the same of a part and what follows it, as they were cut
  module _ (piece after_piece : List ℕ) (p : piece ≡ front_of 59 rest) (m : after_piece ≡ from_first 59 rest) where
    pub cut_room : at + length piece ≤ length text
    cut_room = subst (λ (w : List ℕ). at + length w ≤ length text) (sym p) room

    pub cut_fails : (f : NarrowFault) → IsPartFault at piece pieces f → IsSo (λ one. Narrows text (cuts 59 text) start (Err one)) f
    cut_fails f h = fails f (subst (λ (w : List ℕ). IsPartFault at w pieces f) p h)

    module _ (after : List Piece) (sentence : Sentence term piece) (fine : PartIsFine piece pieces) (is : after ≡ part_after piece pieces) where
      there : Sentence term part
      there = subst (λ (w : List ℕ). Sentence term w) p sentence

      fine_there : PartIsFine part pieces
      fine_there = subst (λ (w : List ℕ). PartIsFine w pieces) p fine

      after_there : after ≡ part_after part pieces
      after_there = is ∙ ap (λ (w : List ℕ). part_after w pieces) p

      pub cut_kept : KeepsFormat after
      cut_kept = subst KeepsFormat (sym after_there) (kept_after there fine_there)

      pub cut_ends : after_piece ≡ [] → Narrows text (cuts 59 text) start (Ok after)
      cut_ends e = subst (λ (qs : List Piece). Narrows text (cuts 59 text) start (Ok qs)) (sym after_there) (ends there fine_there (sym m ∙ e))

      pub cut_goes : (b : ℕ) (further : List ℕ) → after_piece ≡ b ∷ further → Going text start after (at + (length piece + 1)) further
      cut_goes b further e =
          subst (λ (qs : List Piece). Going text start qs (at + (length piece + 1)) further) (sym after_there)
          (subst (λ (w : List ℕ). Going text start (part_after part pieces) (at + (length w + 1)) further) (sym p) (goes there fine_there b further (sym m ∙ e)))

      pub cut_shorter : (b : ℕ) (further : List ℕ) → after_piece ≡ b ∷ further → length further < length rest
      cut_shorter b further e = shorter there fine_there b further (sym m ∙ e)
