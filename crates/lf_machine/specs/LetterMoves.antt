-- The moves that end letters.
use Rattle.std.specs.Prelude.{◌≡◌, ℕ, zero, suc, ◌+◌, ◌*◌, ◌<◌, List, [], ◌∷◌, ◌++◌, Option, None, Some, Bool, true, false, cond}
use Rattle.std.proofs.Common.{refl, subst, arith, inl, inr, Contains}
use Rattle.std.proofs.lemmas.Bool.Decides.{leb_tells}
use Rattle.std.proofs.lemmas.List.Elements.{Contains-append_cases, Contains-append_left, Contains-append_right}
use Rattle.lf_core.specs.declared.marked.Move.{Move}
use Rattle.lf_code_table.specs.Table.{same_list, same_list-true, true-same_list}
use Rattle.lf_machine.specs.Lists.{none-there, one-there, there-one}

-- the moves by which a word's last byte ends a letter below n: the mark tells the letter
abbrev pub letter_move : ℕ → ℕ → ℕ → Option ℕ → List Move
letter_move base width letter None = []
letter_move base width letter (Some after) = record { mark = base + letter; to = after * width } ∷ []

-- the move that ends a letter, by the point that the domain's machine has after each
abbrev pub end_move : (ℕ → Option ℕ) → ℕ → ℕ → ℕ → List Move
end_move next base width letter = letter_move base width letter (next letter)

-- the move that ends a letter, where the text is its word
abbrev pub one_letter : (ℕ → Bool) → (ℕ → List ℕ) → (ℕ → Option ℕ) → ℕ → ℕ → List ℕ → ℕ → List Move
one_letter takes word next base width text letter =
    cond (takes letter) (cond (same_list (word letter) text) (end_move next base width letter) []) []

-- the moves that end the letters below a bound
unfoldable pub letter_moves : (ℕ → Bool) → (ℕ → List ℕ) → (ℕ → Option ℕ) → ℕ → ℕ → List ℕ → ℕ → List Move
letter_moves takes word next base width text zero = []
letter_moves takes word next base width text (suc n) =
    letter_moves takes word next base width text n ++ one_letter takes word next base width text n

module _ (takes : ℕ → Bool) (word : ℕ → List ℕ) (next : ℕ → Option ℕ) (base width : ℕ) (text : List ℕ) where
  -- the move ends a letter whose word the text is
  abbrev pub IsLetterMove : Move → Type 0
  IsLetterMove m = (c : ℕ) × (q : ℕ) × (takes c ≡ true) × (word c ≡ text) × (next c ≡ Some q) × (m ≡ record { mark = base + c; to = q * width })

  from-one : (n : ℕ) (m : Move) (t s : Bool) (o : Option ℕ) → takes n ≡ t → same_list (word n) text ≡ s → next n ≡ o → Contains (cond t (cond s (letter_move base width n o) []) []) m → IsLetterMove m
  from-one n m true true (Some q) x y z h =
      let mv : Move = record { mark = base + n; to = q * width } in
      (n, q, x, same_list-true (word n) text y, z, one-there mv m h)
  from-one n m true true None x y z h = absurd (none-there m h)
  from-one n m true false o x y z h = absurd (none-there m h)
  from-one n m false s o x y z h = absurd (none-there m h)

  -- the moves by letters are those of the letters whose word the text is
  pub letter-moves : (n : ℕ) (m : Move) → Contains (letter_moves takes word next base width text n) m → IsLetterMove m
  unfolding letter_moves
  letter-moves zero m h = absurd (none-there m h)
  letter-moves (suc n) m h =
      elim (Contains-append_cases (letter_moves takes word next base width text n) (one_letter takes word next base width text n) m h) [
        | inl k ↦ letter-moves n m k
        | inr k ↦ from-one n m (takes n) (same_list (word n) text) (next n) refl refl refl k
      ]

  into-one : (n q : ℕ) (t s : Bool) (o : Option ℕ) → t ≡ true → s ≡ true → o ≡ Some q → Contains (cond t (cond s (letter_move base width n o) []) []) (record { mark = base + n; to = q * width })
  into-one n q t s o x y z =
      let mv : Move = record { mark = base + n; to = q * width } in
      rw (x, y, z) (there-one mv)

  pub letter-moved : (n c q : ℕ) → c < n → takes c ≡ true → word c ≡ text → next c ≡ Some q → Contains (letter_moves takes word next base width text n) (record { mark = base + c; to = q * width })
  unfolding letter_moves
  letter-moved zero c q h t w e = absurd (omega arith)
  letter-moved (suc n) c q h t w e =
      let mv : Move = record { mark = base + c; to = q * width } in
      elim (leb_tells n c) [
        | inl k ↦
            let z : c ≡ n = omega (arith, k.1) in
            let s : same_list (word c) text ≡ true = rw w (true-same_list text) in
            Contains-append_right (letter_moves takes word next base width text n) (one_letter takes word next base width text n) mv
            (subst (λ (x : ℕ). Contains (one_letter takes word next base width text x) mv) z (into-one c q (takes c) (same_list (word c) text) (next c) t s e))
        | inr k ↦ Contains-append_left (letter_moves takes word next base width text n) (one_letter takes word next base width text n) mv (letter-moved n c q k.1 t w e)
      ]
