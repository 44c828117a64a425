-- The letters by the last bytes of their words.
use Rattle.std.proofs.Common.{◌≡◌, ℕ, zero, suc, ◌+◌, ◌<◌, inl, inr, List, [], ◌∷◌, ◌++◌, length, get_or, set, Option, Bool, true, false, cond, ◌==◌, refl, sym, ap, ◌∙◌, arith, add-one, append-nil, replicate}
use Rattle.std.proofs.lemmas.Bool.Decides.{nat_tests}
use Rattle.std.proofs.lemmas.List.{get_or_default, get_or-replicate, length-replicate, get_or-set_same, get_or-set_other, length-set}
use Rattle.lf_code_table.specs.Endings.{last_of, letters_ending, HasEndings}
use Rattle.std.proofs.lemmas.Bool.{cases_Bool}

-- a letter put behind those of a list
pub pushed : (lists : List (List ℕ)) (at letter : ℕ) (list new : List ℕ) → length lists ≡ 256 → at < 256 → list ≡ get_or lists at list → new ≡ list ++ letter ∷ [] → new ≡ get_or lists at [] ++ letter ∷ []
pushed lists at letter list new many small e n =
    n ∙ ap (λ (xs : List ℕ). xs ++ letter ∷ []) (e ∙ get_or_default lists at list [] (omega (arith, many, small)))

module _ (takes : ℕ → Bool) (word : ℕ → List ℕ) where
  ending-none : (byte : ℕ) → letters_ending takes word byte 0 ≡ []
  unfolding letters_ending
  ending-none byte = refl

  ending-more : (byte n : ℕ) → letters_ending takes word byte (n + 1) ≡ letters_ending takes word byte n ++ cond (takes n) (cond (last_of (word n) == byte) (n ∷ []) []) []
  unfolding letters_ending
  ending-more byte n = rw add-one refl

  ending-same : (byte n : ℕ) (t s : Bool) → takes n ≡ t → (last_of (word n) == byte) ≡ s → letters_ending takes word byte (n + 1) ≡ letters_ending takes word byte n ++ cond t (cond s (n ∷ []) []) []
  ending-same byte n t s e f = ending-more byte n ∙ ap (λ (b : Bool). letters_ending takes word byte n ++ cond b (cond (last_of (word n) == byte) (n ∷ []) []) []) e ∙ ap (λ (b : Bool). letters_ending takes word byte n ++ cond t (cond b (n ∷ []) []) []) f

  abbrev no_letters : List ℕ
  no_letters = []

  -- at first no list has a letter
  pub endings-none : (lists : List (List ℕ)) → lists ≡ replicate 256 [] → HasEndings takes word lists 0
  endings-none lists e = record {
    many = ap length e ∙ length-replicate 256 no_letters;
    each = λ byte h. ap (λ (ls : List (List ℕ)). get_or ls byte []) e ∙ get_or-replicate 256 byte [] [] h ∙ sym (ending-none byte);
  }

  -- a letter that isn't taken is in no list
  pub endings-same : (lists : List (List ℕ)) (n : ℕ) → HasEndings takes word lists n → takes n ≡ false → HasEndings takes word lists (n + 1)
  endings-same lists n h f = record {
    many = h.many;
    each = λ byte l.
        h.each byte l
        ∙ sym (append-nil (letters_ending takes word byte n))
        ∙ sym (ending-more byte n ∙ ap (λ (b : Bool). letters_ending takes word byte n ++ cond b (cond (last_of (word n) == byte) (n ∷ []) []) []) f);
  }

  -- one that is taken is in the list of its word's last byte
  pub endings-more : (lists : List (List ℕ)) (n at : ℕ) (list : List ℕ) → HasEndings takes word lists n → takes n ≡ true → last_of (word n) ≡ at → at < 256 → list ≡ get_or lists at [] ++ n ∷ [] → HasEndings takes word (set lists at list) (n + 1)
  endings-more lists n at list h t last small e = record {
    many = length-set lists at list ∙ h.many;
    each = λ byte l.
        elim (cases_Bool (last_of (word n) == byte)) [
          | inl same ↦
              let z : byte ≡ at = grind (arith, nat_tests, same, last) in
              let k : at < length lists = omega (arith, h.many, small) in
              let more = ending-same byte n true true t same in
              ap (λ (b : ℕ). get_or (set lists at list) b []) z ∙ get_or-set_same lists at list [] k ∙ e
              ∙ ap (λ (xs : List ℕ). xs ++ n ∷ []) (ap (λ (b : ℕ). get_or lists b []) (sym z) ∙ h.each byte l) ∙ sym more
          | inr other ↦
              let z : byte ≡ at → ⊥ = λ q. grind (arith, nat_tests, other, last, q) in
              let more = ending-same byte n true false t other in
              get_or-set_other lists at byte list [] z ∙ h.each byte l ∙ sym (append-nil (letters_ending takes word byte n)) ∙ sym more
        ];
  }
