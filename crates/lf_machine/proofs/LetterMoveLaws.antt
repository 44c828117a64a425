-- The moves that end letters, by the last bytes of their words, and by their words of one byte.
use Rattle.std.proofs.Common.{◌≡◌, ℕ, zero, suc, inl, inr, List, [], ◌∷◌, ◌++◌, length, Option, Bool, true, false, cond, ◌==◌, ◌&&◌, refl, sym, ap, ◌∙◌, arith, append-nil}
use Rattle.std.specs.List.{flat_map}
use Rattle.std.proofs.Math.Bool.{and-false}
use Rattle.std.proofs.lemmas.Bool.Decides.{nat_tests}
use Rattle.std.proofs.lemmas.Grind.{flat_map-append}
use Rattle.std.proofs.lemmas.Bool.{cases_Bool, eqb-true}
use Rattle.std.proofs.lemmas.List.{nil_from_length}
use Rattle.lf_core.specs.declared.marked.Move.{Move}
use Rattle.lf_code_table.specs.Endings.{last_of, letters_ending}
use Rattle.lf_code_table.specs.Lone.{is_lone, lone_of}
use Rattle.lf_code_table.specs.Table.{same_list, same_list-true}
use Rattle.lf_machine.specs.LetterMoves.{end_move, one_letter, letter_moves}

last-of_append : (read : List ℕ) (byte : ℕ) → last_of (read ++ byte ∷ []) ≡ byte
last-of_append [] byte = refl
last-of_append (x ∷ []) byte = refl
last-of_append (x ∷ y ∷ read) byte = last-of_append (y ∷ read) byte

same-last : (word read : List ℕ) (byte : ℕ) → same_list word (read ++ byte ∷ []) ≡ true → (last_of word == byte) ≡ true
same-last word read byte h =
    let e : last_of word ≡ byte = ap last_of (same_list-true word (read ++ byte ∷ []) h) ∙ last-of_append read byte in
    grind (arith, nat_tests, e)

module _ (takes : ℕ → Bool) (word : ℕ → List ℕ) (next : ℕ → Option ℕ) (width : ℕ) (read : List ℕ) (byte : ℕ) where
  abbrev one : ℕ → List Move
  one = one_letter takes word next 3 width (read ++ byte ∷ [])

  no-moves : (n : ℕ) (t s l : Bool) → takes n ≡ t → same_list (word n) (read ++ byte ∷ []) ≡ s → (last_of (word n) == byte) ≡ l → one n ≡ flat_map one (cond t (cond l (n ∷ []) []) [])
  no-moves n true s true a b c = sym (append-nil (one n))
  no-moves n true true false a b c = let e : true ≡ false = sym (same-last (word n) read byte b) ∙ c in cc
  no-moves n true false false a b c = rw (a, b) refl
  no-moves n false s l a b c = rw a refl

  moves-upto : (n : ℕ) → letter_moves takes word next 3 width (read ++ byte ∷ []) n ≡ flat_map one (letters_ending takes word byte n)
  unfolding letter_moves letters_ending
  moves-upto zero = refl
  moves-upto (suc n) =
      ap (λ (ms : List Move). ms ++ one n) (moves-upto n)
      ∙ ap (λ (ms : List Move). flat_map one (letters_ending takes word byte n) ++ ms) (no-moves n (takes n) (same_list (word n) (read ++ byte ∷ [])) (last_of (word n) == byte) refl refl refl)
      ∙ sym (flat_map-append one (letters_ending takes word byte n) (cond (takes n) (cond (last_of (word n) == byte) (n ∷ []) []) []))

  -- the letters whose words the byte ends have all the moves
  pub letters-moves : letter_moves takes word next 3 width (read ++ byte ∷ []) 256 ≡ flat_map one (letters_ending takes word byte 256)
  letters-moves = moves-upto 256

pub length-none : (xs : List ℕ) → (length xs == 0) ≡ true → xs ≡ []
length-none xs h = nil_from_length xs (eqb-true (length xs) 0 h)

-- a word is the byte if it has one byte, and ends with it
one-byte : (word : List ℕ) (byte : ℕ) → same_list word (byte ∷ []) ≡ (last_of word == byte) && (length word == 1)
one-byte [] byte = sym (and-false (0 == byte))
one-byte (x ∷ []) byte = refl
one-byte (x ∷ y ∷ word) byte =
    let long : (length (x ∷ y ∷ word) == 1) ≡ false = grind (arith, nat_tests) in
    and-false (x == byte) ∙ sym (ap (λ (b : Bool). (last_of (y ∷ word) == byte) && b) long ∙ and-false (last_of (y ∷ word) == byte))

module _ (takes : ℕ → Bool) (word : ℕ → List ℕ) (next : ℕ → Option ℕ) (width : ℕ) (byte : ℕ) where
  abbrev ended : List ℕ → List Move
  ended letters = flat_map (end_move next 3 width) (lone_of takes word letters)

  lone-append : (xs ys : List ℕ) → lone_of takes word (xs ++ ys) ≡ lone_of takes word xs ++ lone_of takes word ys
  lone-append [] ys = refl
  lone-append (c ∷ xs) ys =
      elim (cases_Bool (is_lone takes word c)) [
        | inl t ↦ rw t (ap (λ (zs : List ℕ). c ∷ zs) (lone-append xs ys))
        | inr f ↦ rw f (lone-append xs ys)
      ]

  ended-append : (xs ys : List ℕ) → ended (xs ++ ys) ≡ ended xs ++ ended ys
  ended-append xs ys = ap (flat_map (end_move next 3 width)) (lone-append xs ys) ∙ flat_map-append (end_move next 3 width) (lone_of takes word xs) (lone_of takes word ys)

  one-ended : (n : ℕ) (t l k : Bool) → takes n ≡ t → (length (word n) == 1) ≡ k → cond t (cond (l && k) (end_move next 3 width n) []) [] ≡ ended (cond t (cond l (n ∷ []) []) [])
  one-ended n true true true a c = rw (a, c) (sym (append-nil (end_move next 3 width n)))
  one-ended n true true false a c = rw (a, c) refl
  one-ended n true false k a c = refl
  one-ended n false l k a c = refl

  ended-upto : (n : ℕ) → letter_moves takes word next 3 width (byte ∷ []) n ≡ ended (letters_ending takes word byte n)
  unfolding letter_moves letters_ending
  ended-upto zero = refl
  ended-upto (suc n) =
      ap (λ (ms : List Move). ms ++ one_letter takes word next 3 width (byte ∷ []) n) (ended-upto n)
      ∙ ap (λ (b : Bool). ended (letters_ending takes word byte n) ++ cond (takes n) (cond b (end_move next 3 width n) []) []) (one-byte (word n) byte)
      ∙ ap (λ (ms : List Move). ended (letters_ending takes word byte n) ++ ms) (one-ended n (takes n) (last_of (word n) == byte) (length (word n) == 1) refl refl)
      ∙ sym (ended-append (letters_ending takes word byte n) (cond (takes n) (cond (last_of (word n) == byte) (n ∷ []) []) []))

  -- the letters whose words are the byte have all the moves
  pub lone-moves : letter_moves takes word next 3 width (byte ∷ []) 256 ≡ ended (letters_ending takes word byte 256)
  lone-moves = ended-upto 256
