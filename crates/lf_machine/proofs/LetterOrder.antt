-- Of two runs over the words of letters the lesser has the lesser letters.
use Rattle.std.proofs.Common.{◌≡◌, ℕ, ◌+◌, ◌<◌, ◌⊎◌, inl, inr, List, [], ◌∷◌, ◌++◌, true, refl, sym, ap, ◌∙◌, arith, append_assoc, append-nil}
use Rattle.std.proofs.lemmas.List.{append_cancel_left}
use Rattle.lf_core.specs.Domain.{accepts}
use Rattle.lf_core.specs.AcceptsLaws.{accepts-first}
use Rattle.lf_escape.specs.Codes.{coded}
use Rattle.lf_machine.specs.Paths.{Step, Before}
use Rattle.lf_machine.specs.RecordOrder.{IsTextLess}
use Rattle.lf_machine.specs.Letters.{At, word_run, letters_run, AllTaken}
use Rattle.lf_machine.proofs.LetterRuns.{letters_run-first}
use Rattle.lf_machine.specs.SlotMachine.{SlotMachine}

-- of two beginnings of one text one begins the other
split : (xs ys x y : List ℕ) → xs ++ x ≡ ys ++ y → ((r : List ℕ) × (xs ≡ ys ++ r)) ⊎ ((r : List ℕ) × (ys ≡ xs ++ r))
split [] ys x y e = inr (ys, refl)
split (b ∷ xs) [] x y e = inl (b ∷ xs, refl)
split (b ∷ xs) (d ∷ ys) x y e =
    let h : b ≡ d = cc in
    let t : xs ++ x ≡ ys ++ y = cc in
    elim (split xs ys x y t) [
      | inl r ↦ let k = r.1 in inl (r.0, cc)
      | inr r ↦ let k = r.1 in inr (r.0, cc)
    ]

module _ (sm : SlotMachine)
    (prefix_free : (a b : ℕ) (rest : List ℕ) → sm.takes a ≡ true → sm.takes b ≡ true → sm.word b ≡ sm.word a ++ rest → rest ≡ []) where
  before-words : (rest : List ℕ) (q r a₁ a₂ c₁ c₂ b : ℕ) (read : List ℕ) (run other : List (Step At)) →
      Before (word_run sm q a₁ c₁ read (b ∷ rest) ++ run) (word_run sm r a₂ c₂ read (b ∷ rest) ++ other) → (c₁ < c₂) ⊎ ((c₁ ≡ c₂) × Before run other)
  before-words [] q r a₁ a₂ c₁ c₂ b read run other h =
      elim h [
        | inl k ↦ inl (omega (arith, k))
        | inr k ↦
            let m : 3 + c₁ ≡ 3 + c₂ = ap (λ (s : Step At). s.mark) k.0 in
            inr (omega arith, k.1)
      ]
  before-words (x ∷ rest) q r a₁ a₂ c₁ c₂ b read run other h =
      elim h [
        | inl k ↦ absurd (omega (arith, k))
        | inr k ↦ before-words rest q r a₁ a₂ c₁ c₂ x (read ++ b ∷ []) run other k.1
      ]

  -- two letters whose words begin one text have one word
  same-words : (c d : ℕ) (x y : List ℕ) → sm.takes c ≡ true → sm.takes d ≡ true → sm.word c ++ x ≡ sm.word d ++ y → sm.word c ≡ sm.word d
  same-words c d x y s t e =
      elim (split (sm.word c) (sm.word d) x y e) [
        | inl r ↦ r.1 ∙ ap (λ (z : List ℕ). sm.word d ++ z) (prefix_free d c r.0 t s r.1) ∙ append-nil (sm.word d)
        | inr r ↦ sym (r.1 ∙ ap (λ (z : List ℕ). sm.word c ++ z) (prefix_free c d r.0 s t r.1) ∙ append-nil (sm.word c))
      ]

  no-end : (rest : List ℕ) (q a c b : ℕ) (read : List ℕ) (run : List (Step At)) → Before (word_run sm q a c read (b ∷ rest) ++ run) [] → ⊥
  no-end [] q a c b read run h = h
  no-end (x ∷ rest) q a c b read run h = h

  -- of two runs over the words of held letters that begin one line, the lesser has the lesser letters
  pub letters-order : (cs ds : List ℕ) (q r : ℕ) (x y : List ℕ) → AllTaken sm cs → AllTaken sm ds → accepts sm.next sm.ends q cs ≡ true → accepts sm.next sm.ends r ds ≡ true →
      coded sm.word cs ++ x ≡ coded sm.word ds ++ y → Before (letters_run sm q cs) (letters_run sm r ds) → IsTextLess cs ds
  letters-order [] [] q r x y s t a d e h = h
  letters-order [] (m ∷ ds) q r x y s t a d e h = tt
  letters-order (c ∷ cs) [] q r x y s t a d e h =
      let f = accepts-first sm.next sm.ends q c cs a in
      let w = sm.least c s.0 in
      no-end w.1 q f.0 c w.0 [] (letters_run sm f.0 cs) (rw (letters_run-first sm q c f.0 w.0 w.1 cs f.1 w.2) at h)
  letters-order (c ∷ cs) (m ∷ ds) q r x y s t a d e h =
      let f = accepts-first sm.next sm.ends q c cs a in
      let g = accepts-first sm.next sm.ends r m ds d in
      let e2 : sm.word c ++ (coded sm.word cs ++ x) ≡ sm.word m ++ (coded sm.word ds ++ y) = sym (append_assoc (sm.word c) (coded sm.word cs) x) ∙ e ∙ append_assoc (sm.word m) (coded sm.word ds) y in
      let same = same-words c m (coded sm.word cs ++ x) (coded sm.word ds ++ y) s.0 t.0 e2 in
      let e3 : coded sm.word cs ++ x ≡ coded sm.word ds ++ y = append_cancel_left (sm.word c) (coded sm.word cs ++ x) (coded sm.word ds ++ y) (e2 ∙ ap (λ (z : List ℕ). z ++ (coded sm.word ds ++ y)) (sym same)) in
      let w = sm.least c s.0 in
      let w2 : sm.word m ≡ w.0 ∷ w.1 = sym same ∙ w.2 in
      let h2 = rw (letters_run-first sm q c f.0 w.0 w.1 cs f.1 w.2, letters_run-first sm r m g.0 w.0 w.1 ds g.1 w2) at h in
      elim (before-words w.1 q r f.0 g.0 c m w.0 [] (letters_run sm f.0 cs) (letters_run sm g.0 ds) h2) [
        | inl k ↦ inl k
        | inr k ↦ inr (k.0, letters-order cs ds f.0 g.0 x y s.1 t.1 f.2 g.2 e3 k.1)
      ]
