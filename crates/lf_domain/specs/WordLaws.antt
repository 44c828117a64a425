-- Laws of the domain of a list's words.
use Rattle.std.proofs.Common.{◌≡◌, ℕ, ◌+◌, ◌-◌, ◌<◌, ◌≤◌, List, [], ◌∷◌, ◌++◌, length, take, drop, Option, Some, Bool, true, false, ltb, nat_eq, ◌||◌, arith, refl, sym, ap, subst, ◌∙◌, ◌⊎◌, inl, inr, append-nil, append_assoc, add_assoc, zero-add, Contains, All, length-append}
use Rattle.std.proofs.lemmas.Bool.{cases_Bool}
use Rattle.std.specs.List.{starts_with}
use Rattle.std.specs.Str.{bytes_eq}
use Rattle.std.proofs.lemmas.Bool.Decides.{nat_tests, Decides-eqb}
use Rattle.std.proofs.lemmas.List.{take_at, get_or_default}
use Rattle.std.proofs.lemmas.List.Elements.{All-nil, All-cons, All-head, All-tail}
use Rattle.std.proofs.lemmas.List.Folds.{Any-from_list_any, list_any_at}
use Rattle.std.proofs.lemmas.List.Sums.{sum_by-cons}
use Rattle.std.proofs.lemmas.Slice.Eq.{bytes_eq-Decides, starts_is}
use Rattle.std.proofs.lemmas.Option.{cond_some}
use Rattle.lf_core.specs.AcceptsLaws.{accepts-step, accepts-first, guarded}
use Rattle.lf_core.specs.Domain.{IsDomain, accepts}
use Rattle.lf_domain.specs.Texts.{text_of}
use Rattle.lf_domain.specs.TextLaws.{domain_of_texts}
use Rattle.lf_domain.specs.WordLists.{letter_count, IsWordOf, HoldsWord, is_word, is_prefix, letters_before, point_of, prefix_at, point_if, word_machine}

-- what a test of a prefix tells, and what it takes
pub front_rest : (word front : List ℕ) → starts_with nat_eq word front ≡ true → word ≡ front ++ drop (length front) word
front_rest word front h = (starts_is Decides-eqb word front (starts_with nat_eq word front) refl).0 h

pub front_found : (word front rest : List ℕ) → word ≡ front ++ rest → starts_with nat_eq word front ≡ true
front_found word front rest e = (starts_is Decides-eqb word front (starts_with nat_eq word front) refl).1 rest e

-- The letters are none, or some word begins with them.
abbrev Begun : List (List ℕ) → List ℕ → Type 0
Begun words letters = (is_prefix words letters ≡ true) ⊎ (letters ≡ [])

or_false : (b c : Bool) → b ≡ false → (b || c) ≡ true → c ≡ true
or_false true c e h = cc
or_false false c e h = h

begun_later : (word : List ℕ) (words : List (List ℕ)) (letters : List ℕ) → starts_with nat_eq word letters ≡ false → Begun (word ∷ words) letters → (is_prefix words letters ≡ true) × (1 ≤ length letters)
begun_later word words [] e h = absurd (cc)
begun_later word words (c ∷ cs) e (inl h) = (or_false (starts_with nat_eq word (c ∷ cs)) (is_prefix words (c ∷ cs)) e h, omega arith)
begun_later word words (c ∷ cs) e (inr h) = absurd (cc)

pub front_fits : (word front : List ℕ) → starts_with nat_eq word front ≡ true → length front ≤ length word
front_fits word front h =
    let e = front_rest word front h in
    omega (arith, ap length e, length-append front (drop (length front) word))

point_of-here : (word : List ℕ) (words : List (List ℕ)) (letters : List ℕ) → starts_with nat_eq word letters ≡ true → point_of (word ∷ words) letters ≡ length letters
point_of-here word words letters t = rw t (zero-add (length letters))

point_of-later : (word : List ℕ) (words : List (List ℕ)) (letters : List ℕ) → starts_with nat_eq word letters ≡ false → point_of (word ∷ words) letters ≡ length word + point_of words letters
point_of-later word words letters f = rw f (add_assoc (length word) (letters_before words letters) (length letters))

point_of-none : (words : List (List ℕ)) → point_of words [] ≡ 0
point_of-none [] = refl
point_of-none (word ∷ words) = refl

pub prefix_at-here : (word : List ℕ) (words : List (List ℕ)) (point : ℕ) → point ≤ length word → prefix_at (word ∷ words) point ≡ take point word
prefix_at-here word words point h = grind (arith, nat_tests)

pub prefix_at-later : (word : List ℕ) (words : List (List ℕ)) (point : ℕ) → length word < point → prefix_at (word ∷ words) point ≡ prefix_at words (point - length word)
prefix_at-later word words point h = grind (arith, nat_tests)

-- a prefix's point leads back to it
prefix_at-point_of : (words : List (List ℕ)) (letters : List ℕ) → Begun words letters → prefix_at words (point_of words letters) ≡ letters
prefix_at-point_of [] letters (inl h) = absurd (cc)
prefix_at-point_of [] letters (inr h) = sym h
prefix_at-point_of (word ∷ words) letters h =
    elim (cases_Bool (starts_with nat_eq word letters)) [
      | inl t ↦
          ap (prefix_at (word ∷ words)) (point_of-here word words letters t)
          ∙ prefix_at-here word words (length letters) (front_fits word letters t)
          ∙ ap (take (length letters)) (front_rest word letters t)
          ∙ take_at letters (drop (length letters) word) (length letters) refl
      | inr f ↦
          let g = begun_later word words letters f h in
          let more : length word < length word + point_of words letters = omega (arith, g.1) in
          let less : length word + point_of words letters - length word ≡ point_of words letters = omega arith in
          ap (prefix_at (word ∷ words)) (point_of-later word words letters f)
          ∙ prefix_at-later word words (length word + point_of words letters) more
          ∙ ap (prefix_at words) less
          ∙ prefix_at-point_of words letters (inl g.0)
    ]

point_of-most : (words : List (List ℕ)) (letters : List ℕ) → Begun words letters → point_of words letters ≤ letter_count words
point_of-most [] letters (inl h) = absurd (cc)
point_of-most [] letters (inr h) = omega (arith, ap length h)
point_of-most (word ∷ words) letters h =
    elim (cases_Bool (starts_with nat_eq word letters)) [
      | inl t ↦ omega (arith, point_of-here word words letters t, front_fits word letters t, sum_by-cons length word words)
      | inr f ↦
          let g = begun_later word words letters f h in
          omega (arith, point_of-later word words letters f, point_of-most words letters (inl g.0), sum_by-cons length word words)
    ]

-- some word begins with the prefix of a word
pub word_begun : (words : List (List ℕ)) (front rest : List ℕ) → is_word words (front ++ rest) ≡ true → is_prefix words front ≡ true
word_begun words front rest h =
    let a = Any-from_list_any (λ word. bytes_eq word (front ++ rest)) words h in
    let e = (bytes_eq-Decides a.1 (front ++ rest)).0 a.4 in
    list_any_at (λ word. starts_with nat_eq word front) words a.0 a.1 a.2 (rw a.3 (front_found a.1 front rest e))

pub contained_word : (words : List (List ℕ)) (text : List ℕ) → is_word words text ≡ true → Contains words text
contained_word words text h =
    let a = Any-from_list_any (λ word. bytes_eq word text) words h in
    let e = (bytes_eq-Decides a.1 text).0 a.4 in
    (a.0, a.2, get_or_default words a.0 text a.1 a.2 ∙ a.3 ∙ e)

pub word_contained : (words : List (List ℕ)) (text : List ℕ) → Contains words text → is_word words text ≡ true
word_contained words text h =
    list_any_at (λ word. bytes_eq word text) words h.0 text h.1 (rw h.2 ((bytes_eq-Decides text text).1 refl))

module _ (words : List (List ℕ)) where
  abbrev next : ℕ → ℕ → Option ℕ
  next = (word_machine words).next

  abbrev ends : ℕ → Bool
  ends = (word_machine words).is_end

  next_goes : (letters : List ℕ) (c : ℕ) → Begun words letters → c < 256 → is_prefix words (letters ++ c ∷ []) ≡ true → next (point_of words letters) c ≡ Some (point_of words (letters ++ c ∷ []))
  next_goes letters c b h p =
      let t : ltb c 256 ≡ true = grind (arith, nat_tests) in
      rw (t, prefix_at-point_of words letters b, p)

  next_came : (letters : List ℕ) (c after : ℕ) → Begun words letters → next (point_of words letters) c ≡ Some after → (c < 256) × (is_prefix words (letters ++ c ∷ []) ≡ true) × (point_of words (letters ++ c ∷ []) ≡ after)
  next_came letters c after b h =
      let front = prefix_at words (point_of words letters) in
      let g = guarded (ltb c 256) (point_if words (front ++ c ∷ [])) after h in
      let k = cond_some (is_prefix words (front ++ c ∷ [])) (point_of words (front ++ c ∷ [])) after g.1 in
      let l = subst (λ (f : List ℕ). (is_prefix words (f ++ c ∷ []) ≡ true) × (point_of words (f ++ c ∷ []) ≡ after)) (prefix_at-point_of words letters b) k in
      (grind (arith, nat_tests, g.0), l.0, l.1)

  word_sound : (text letters : List ℕ) → Begun words letters → accepts next ends (point_of words letters) text ≡ true → (is_word words (letters ++ text) ≡ true) × All (λ letter. letter < 256) text
  word_sound [] letters b a =
      (rw append-nil (ap (is_word words) (sym (prefix_at-point_of words letters b)) ∙ a), All-nil (λ letter. letter < 256))
  word_sound (c ∷ cs) letters b a =
      let f = accepts-first next ends (point_of words letters) c cs a in
      let g = next_came letters c f.0 b f.1 in
      let r = word_sound cs (letters ++ c ∷ []) (inl g.1) (rw (← g.2) at f.2) in
      (ap (is_word words) (sym (append_assoc letters (c ∷ []) cs)) ∙ r.0, All-cons (λ letter. letter < 256) c cs g.0 r.1)

  word_complete : (text letters : List ℕ) → Begun words letters → is_word words (letters ++ text) ≡ true → All (λ letter. letter < 256) text → accepts next ends (point_of words letters) text ≡ true
  word_complete [] letters b h bytes = ap (is_word words) (prefix_at-point_of words letters b ∙ sym (append-nil letters)) ∙ h
  word_complete (c ∷ cs) letters b h bytes =
      let w = ap (is_word words) (append_assoc letters (c ∷ []) cs) ∙ h in
      let p = word_begun words (letters ++ c ∷ []) cs w in
      let e = next_goes letters c b (All-head (λ letter. letter < 256) c cs bytes) p in
      accepts-step next ends (point_of words letters) (point_of words (letters ++ c ∷ [])) c cs e
      ∙ word_complete cs (letters ++ c ∷ []) (inl p) w (All-tail (λ letter. letter < 256) c cs bytes)

  machine_sound : (text : List ℕ) → accepts next ends 0 text ≡ true → IsWordOf words text
  machine_sound text a =
      let r = word_sound text [] (inr refl) (rw point_of-none a) in
      (contained_word words text r.0, r.1)

  machine_complete : (text : List ℕ) → IsWordOf words text → accepts next ends 0 text ≡ true
  machine_complete text h = rw point_of-none at (word_complete text [] (inr refl) (word_contained words text h.0) h.1)

  machine_stays : (point letter after : ℕ) → point < letter_count words + 1 → next point letter ≡ Some after → (letter < 256) × (after < letter_count words + 1)
  machine_stays point letter after l h =
      let front = prefix_at words point ++ letter ∷ [] in
      let g = guarded (ltb letter 256) (point_if words front) after h in
      let k = cond_some (is_prefix words front) (point_of words front) after g.1 in
      (grind (arith, nat_tests, g.0), omega (arith, k.1, point_of-most words front (inl k.0)))

pub word_laws : (words : List (List ℕ)) → IsDomain (HoldsWord words) text_of (word_machine words) (letter_count words + 1)
word_laws words = domain_of_texts (IsWordOf words) (word_machine words) (letter_count words + 1) record {
  sound = machine_sound words;
  complete = machine_complete words;
  begins = omega arith;
  stays = machine_stays words;
  small = omega arith;
}
