-- Laws of domains of texts.
use Rattle.std.proofs.Common.{◌≡◌, ℕ, ◌+◌, ◌<◌, ◌≤◌, List, [], ◌∷◌, length, Option, None, Some, Bool, true, cond, ltb, ◌==◌, min, arith, refl, ap, ◌∙◌}
use Rattle.std.proofs.lemmas.Bool.Decides.{nat_tests}
use Rattle.std.proofs.lemmas.List.Elements.{All-nil, All-cons, All-head, All-tail}
use Rattle.std.proofs.lemmas.Option.{cond_some}
use Rattle.lf_core.specs.AcceptsLaws.{accepts-step, accepts-first, guarded}
use Rattle.lf_core.specs.Class.{is_letter}
use Rattle.lf_core.specs.Domain.{IsDomain, LetterMachine, accepts}
use Rattle.lf_core.specs.declared.class.Class.{Class}
use Rattle.lf_core.specs.declared.values.Value.{Value}
use Rattle.lf_core.specs.declared.values.Value.TheVariants.{Text}
use Rattle.lf_domain.specs.Texts.{AllIn, IsText, IsSized, IsQuery, text_machine, query_machine, HoldsText, HoldsQuery, text_of, top_point}

-- The machine accepts just the lists of letters with the property.
pub record AcceptsJust (P : List ℕ → Type 0) (machine : LetterMachine) (size : ℕ) : Type 0 where
  pub sound : (text : List ℕ) → accepts machine.next machine.is_end machine.first text ≡ true → P text
  pub complete : (text : List ℕ) → P text → accepts machine.next machine.is_end machine.first text ≡ true
  pub begins : machine.first < machine.count
  pub stays : (point letter after : ℕ) → point < machine.count → machine.next point letter ≡ Some after → (letter < 256) × (after < machine.count)
  pub small : machine.count ≤ size

lifted_complete : (P : List ℕ → Type 0) (machine : LetterMachine) (size : ℕ) → AcceptsJust P machine size → (v : Value) → IsText P v → accepts machine.next machine.is_end machine.first (text_of v) ≡ true
lifted_complete P machine size is (Text text) h = is.complete text h
lifted_complete P machine size is v h = absurd h

lifted_distinct : (P : List ℕ → Type 0) (v w : Value) → IsText P v → IsText P w → text_of v ≡ text_of w → v ≡ w
lifted_distinct P (Text t) (Text u) h g e = ap Text e
lifted_distinct P (Text t) w h g e = absurd g
lifted_distinct P v w h g e = absurd h

-- such a machine is that of the texts with the property
pub domain_of_texts : (P : List ℕ → Type 0) (machine : LetterMachine) (size : ℕ) → AcceptsJust P machine size → IsDomain (IsText P) text_of machine size
domain_of_texts P machine size is = record {
  sound = λ text a. (Text text, is.sound text a, refl);
  complete = lifted_complete P machine size is;
  distinct = lifted_distinct P;
  begins = is.begins;
  stays = is.stays;
  small = is.small;
}

module _ (set : Class) (least most : ℕ) where
  abbrev next : ℕ → ℕ → Option ℕ
  next = (text_machine set least (Some most)).next

  abbrev ends : ℕ → Bool
  ends = (text_machine set least (Some most)).is_end

  pub bounded_sound : (text : List ℕ) (point : ℕ) → point ≤ most → accepts next ends point text ≡ true → AllIn set text × (least ≤ point + length text) × (point + length text ≤ most)
  bounded_sound [] point h a = (All-nil (λ letter. is_letter set letter ≡ true), grind (arith, nat_tests), grind (arith, nat_tests))
  bounded_sound (c ∷ cs) point h a =
      let f = accepts-first next ends point c cs a in
      let g = guarded (is_letter set c) (cond (ltb point most) (Some (point + 1)) None) f.0 f.1 in
      let k = cond_some (ltb point most) (point + 1) f.0 g.1 in
      let k2 : point + 1 ≤ most = grind (arith, nat_tests, k.0) in
      let r : AllIn set cs × (least ≤ (point + 1) + length cs) × ((point + 1) + length cs ≤ most) = bounded_sound cs (point + 1) k2 (rw (← k.1) at f.2) in
      (All-cons (λ letter. is_letter set letter ≡ true) c cs g.0 r.0, omega (arith, r.1), omega (arith, r.2))

  pub bounded_complete : (text : List ℕ) (point : ℕ) → AllIn set text → least ≤ point + length text → point + length text ≤ most → accepts next ends point text ≡ true
  bounded_complete [] point a l m = grind (arith, nat_tests)
  bounded_complete (c ∷ cs) point a l m =
      let e : next point c ≡ Some (point + 1) = rw (All-head (λ letter. is_letter set letter ≡ true) c cs a) (grind (arith, nat_tests)) in
      accepts-step next ends point (point + 1) c cs e ∙ bounded_complete cs (point + 1) (All-tail (λ letter. is_letter set letter ≡ true) c cs a) (omega arith) (omega arith)

module _ (set : Class) (least : ℕ) where
  abbrev next_open : ℕ → ℕ → Option ℕ
  next_open = (text_machine set least None).next

  abbrev ends_open : ℕ → Bool
  ends_open = (text_machine set least None).is_end

  pub open_sound : (text : List ℕ) (point : ℕ) → point ≤ least → accepts next_open ends_open point text ≡ true → AllIn set text × (least ≤ point + length text)
  open_sound [] point h a = (All-nil (λ letter. is_letter set letter ≡ true), grind (arith, nat_tests))
  open_sound (c ∷ cs) point h a =
      let f = accepts-first next_open ends_open point c cs a in
      let g = cond_some (is_letter set c) (min (point + 1) least) f.0 f.1 in
      let r : AllIn set cs × (least ≤ min (point + 1) least + length cs) = open_sound cs (min (point + 1) least) (omega arith) (rw (← g.1) at f.2) in
      (All-cons (λ letter. is_letter set letter ≡ true) c cs g.0 r.0, omega (arith, r.1))

  pub open_complete : (text : List ℕ) (point : ℕ) → point ≤ least → AllIn set text → least ≤ point + length text → accepts next_open ends_open point text ≡ true
  open_complete [] point h a l = grind (arith, nat_tests)
  open_complete (c ∷ cs) point h a l =
      let e : next_open point c ≡ Some (min (point + 1) least) = rw (All-head (λ letter. is_letter set letter ≡ true) c cs a) in
      accepts-step next_open ends_open point (min (point + 1) least) c cs e
      ∙ open_complete cs (min (point + 1) least) (omega arith) (All-tail (λ letter. is_letter set letter ≡ true) c cs a) (omega arith)

sized_sound : (set : Class) (least : ℕ) (most : Option ℕ) (text : List ℕ) → accepts (text_machine set least most).next (text_machine set least most).is_end 0 text ≡ true → IsSized set least most text
sized_sound set least None text a = let r = open_sound set least text 0 (omega arith) a in (r.0, omega (arith, r.1), tt)
sized_sound set least (Some most) text a = let r = bounded_sound set least most text 0 (omega arith) a in (r.0, omega (arith, r.1), omega (arith, r.2))

sized_complete : (set : Class) (least : ℕ) (most : Option ℕ) (text : List ℕ) → IsSized set least most text → accepts (text_machine set least most).next (text_machine set least most).is_end 0 text ≡ true
sized_complete set least None text h = open_complete set least text 0 (omega arith) h.0 (omega (arith, h.1))
sized_complete set least (Some most) text h = bounded_complete set least most text 0 h.0 (omega (arith, h.1)) (omega (arith, h.2))

guard_letter : (set : Class) (c : ℕ) → is_letter set c ≡ true → c < 256
guard_letter set c h = grind (arith, nat_tests)

text_stays : (set : Class) (least : ℕ) (most : Option ℕ) (point letter after : ℕ) → point < (text_machine set least most).count → (text_machine set least most).next point letter ≡ Some after → (letter < 256) × (after < (text_machine set least most).count)
text_stays set least None point letter after h e =
    let g = cond_some (is_letter set letter) (min (point + 1) least) after e in
    (guard_letter set letter g.0, omega (arith, g.1))
text_stays set least (Some most) point letter after h e =
    let g = guarded (is_letter set letter) (cond (ltb point most) (Some (point + 1)) None) after e in
    let k = cond_some (ltb point most) (point + 1) after g.1 in
    let m : point + 1 ≤ most = grind (arith, nat_tests, k.0) in
    (guard_letter set letter g.0, omega (arith, k.1))

pub text_laws : (set : Class) (least : ℕ) (most : Option ℕ) → IsDomain (HoldsText set least most) text_of (text_machine set least most) (top_point least most + 1)
text_laws set least most = domain_of_texts (IsSized set least most) (text_machine set least most) (top_point least most + 1) record {
  sound = sized_sound set least most;
  complete = sized_complete set least most;
  begins = omega arith;
  stays = text_stays set least most;
  small = omega arith;
}

module _ (set : Class) where
  abbrev next_query : ℕ → ℕ → Option ℕ
  next_query = (query_machine set).next

  abbrev ends_query : ℕ → Bool
  ends_query = (query_machine set).is_end

  letters_sound : (text : List ℕ) → accepts next_query ends_query 1 text ≡ true → AllIn set text
  letters_sound [] a = All-nil (λ letter. is_letter set letter ≡ true)
  letters_sound (c ∷ cs) a =
      let f = accepts-first next_query ends_query 1 c cs a in
      let g = cond_some (is_letter set c) 1 f.0 f.1 in
      All-cons (λ letter. is_letter set letter ≡ true) c cs g.0 (letters_sound cs (rw (← g.1) at f.2))

  letters_complete : (text : List ℕ) → AllIn set text → accepts next_query ends_query 1 text ≡ true
  letters_complete [] h = refl
  letters_complete (c ∷ cs) h =
      let e : next_query 1 c ≡ Some 1 = rw (All-head (λ letter. is_letter set letter ≡ true) c cs h) in
      accepts-step next_query ends_query 1 1 c cs e ∙ letters_complete cs (All-tail (λ letter. is_letter set letter ≡ true) c cs h)

  pub query_sound : (text : List ℕ) → accepts next_query ends_query 0 text ≡ true → IsQuery set text
  query_sound [] a = tt
  query_sound (c ∷ cs) a =
      let f = accepts-first next_query ends_query 0 c cs a in
      let g = cond_some (c == 63) 1 f.0 f.1 in
      (grind (arith, nat_tests, g.0), letters_sound cs (rw (← g.1) at f.2))

  pub query_complete : (text : List ℕ) → IsQuery set text → accepts next_query ends_query 0 text ≡ true
  query_complete [] h = refl
  query_complete (c ∷ cs) h =
      let e : next_query 0 c ≡ Some 1 = rw h.0 in
      accepts-step next_query ends_query 0 1 c cs e ∙ letters_complete cs h.1

  pub query_stays : (point letter after : ℕ) → point < 2 → next_query point letter ≡ Some after → (letter < 256) × (after < 2)
  query_stays point letter after h e =
      let g = cond_some (cond (point == 0) (letter == 63) (is_letter set letter)) 1 after e in
      (grind (arith, nat_tests, g.0), omega (arith, g.1))

pub query_laws : (set : Class) → IsDomain (HoldsQuery set) text_of (query_machine set) 2
query_laws set = domain_of_texts (IsQuery set) (query_machine set) 2 record {
  sound = query_sound set;
  complete = query_complete set;
  begins = omega arith;
  stays = query_stays set;
  small = omega arith;
}
