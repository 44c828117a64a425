-- The numbers of a text that is a term are bounded.
use Rattle.std.proofs.Common.{◌≡◌, ℕ, ◌-◌, ◌<◌, ◌≤◌, ◌^◌, inl, inr, Bool, true, false, cond, eqb, Some, List, [], ◌∷◌, ◌++◌, drop, refl, sym, ap, subst, ◌∙◌, append-nil, arith}
use Rattle.std.proofs.lemmas.Bool.Decides.{nat_tests}
use Rattle.std.specs.Prelude.{codes, pos, negsuc}
use Rattle.lf_limits.specs.Limits.{most_length}
use Rattle.lf_syntax.specs.declared.leaf.Leaf.TheVariants.{End, Number}
use Rattle.lf_syntax.specs.Grammar.{Grammar, leaf, sequence, choice, word, Spells, Sentence}
use Rattle.lf_syntax.specs.Leaf.{IsNumber}
use Rattle.lf_syntax.specs.Cuts.{avoids, front_of, from_first}
use Rattle.lf_syntax.specs.CutLaws.{Free, free, leaf-free}
use Rattle.lf_syntax.specs.FirstFaultLaws.{front-on, from-on}
use Rattle.lf_narrow.specs.Narrowing.{byte, slot_number, length_number, int, set, wide, rule, term}
use Rattle.lf_narrow.specs.Terms.{number_of, int_of, upper_of, lengths_of, range_of, rule_of, term_of}
use Rattle.lf_narrow.specs.Fits.{IsUpper, IsInt, FitsRule, FitsTerm}
use Rattle.lf_narrow.proofs.Digits.{number_bound}

abbrev X : List ℕ → Type 0
X = λ w. ⊥

-- after a byte, and after a word
after_byte : (b : ℕ) (g : Grammar) (w : List ℕ) → Spells X (sequence (byte b) g) w → (v : List ℕ) × (w ≡ b ∷ v) × Spells X g v
after_byte b g w h =
    let y = h.3 in
    let e : y.0 ≡ b = let p = y.2 in let q = y.3 in omega arith in
    (h.1, h.2 ∙ ap (λ (x : List ℕ). x ++ h.1) y.1 ∙ ap (λ (c : ℕ). c ∷ h.1) e, h.4)

after_word : (text : List ℕ) (g : Grammar) (w : List ℕ) → Spells X (sequence (word text) g) w → (v : List ℕ) × (w ≡ text ++ v) × Spells X g v
after_word [] g w h = (h.1, h.2 ∙ ap (λ (x : List ℕ). x ++ h.1) h.3, h.4)
after_word (b ∷ text) g w h =
    let first = after_byte b (word text) h.0 h.3 in
    let inner : Spells X (sequence (word text) g) (first.0 ++ h.1) = (first.0, h.1, refl, first.2, h.4) in
    let more = after_word text g (first.0 ++ h.1) inner in
    (more.0, h.2 ∙ ap (λ (x : List ℕ). x ++ h.1) first.1 ∙ ap (λ (x : List ℕ). b ∷ x) more.1, more.2)

-- where a part has no such byte, the text is cut after it
module _ (b : ℕ) (g : Grammar) (a : avoids b g ≡ true) (u v : List ℕ) (h : Spells X g u) where
  clear : Free b u
  clear = free b X (λ w k. absurd k) (leaf-free b) g a u h

  front_is : eqb b b ≡ true → front_of b (u ++ b ∷ v) ≡ u
  front_is e = front-on b u (b ∷ v) clear ∙ ap (λ (t : Bool). u ++ cond t [] (b ∷ front_of b v)) e ∙ append-nil u

  rest_is : eqb b b ≡ true → from_first b (u ++ b ∷ v) ≡ b ∷ v
  rest_is e = from-on b u (b ∷ v) clear ∙ ap (λ (t : Bool). cond t (b ∷ v) (from_first b v)) e

below_of : (n m : ℕ) → n ≤ 9223372036854775807 → n < 2 ^ 63
below_of n m h = omega (arith, h)

int_fits : (w : List ℕ) → Spells X int w → IsInt (int_of w)
int_fits w (inl h) = plain w h
  where
    plain : (w : List ℕ) → IsNumber true 9223372036854775807 w → IsInt (int_of w)
    plain [] h = absurd h
    plain (d ∷ w) h =
        let bound : number_of (d ∷ w) ≤ 9223372036854775807 = number_bound true 9223372036854775807 (d ∷ w) h in
        let digit : eqb d 45 ≡ false = digit_first d w h in
        subst (λ (t : Bool). IsInt (cond t (negsuc (number_of w - 1)) (pos (number_of (d ∷ w))))) (sym digit) (below_of (number_of (d ∷ w)) 0 bound)
      where
        digit_first : (d : ℕ) (w : List ℕ) → IsNumber true 9223372036854775807 (d ∷ w) → eqb d 45 ≡ false
        digit_first d w (inl h) = grind (arith, nat_tests, h.0)
        digit_first d w (inr h) = grind (arith, nat_tests, h.0)
int_fits w (inr h) =
    let m = after_byte 45 (leaf (Number false 9223372036854775808)) w h in
    let bound : number_of m.0 ≤ 9223372036854775808 = number_bound false 9223372036854775808 m.0 m.2 in
    subst (λ (x : List ℕ). IsInt (int_of x)) (sym m.1) (less (number_of m.0) bound)
  where
    less : (n : ℕ) → n ≤ 9223372036854775808 → n - 1 < 2 ^ 63
    less n h = omega (arith, h)

upper_fits : (w : List ℕ) → Spells X (choice (leaf End) length_number) w → IsUpper (upper_of w)
upper_fits w (inl h) = subst (λ (x : List ℕ). IsUpper (upper_of x)) (sym h) (λ x e. absurd (cc))
upper_fits [] (inr h) = absurd h
upper_fits (d ∷ w) (inr h) = λ x e. let same : number_of (d ∷ w) ≡ x = cc in subst (λ (n : ℕ). n ≤ most_length) same (number_bound true most_length (d ∷ w) h)

-- two parts with `..` between them
between : (g k : Grammar) (w : List ℕ) → Spells X (sequence g (sequence (word (codes "..")) k)) w → (u : List ℕ) × (v : List ℕ) × (w ≡ u ++ 46 ∷ 46 ∷ v) × Spells X g u × Spells X k v
between g k w h =
    let m = after_word (codes "..") k h.1 h.4 in
    (h.0, m.0, h.2 ∙ ap (λ (x : List ℕ). h.0 ++ x) m.1, h.3, m.2)

lengths_fit : (w : List ℕ) → Spells X (sequence length_number (sequence (word (codes "..")) (choice (leaf End) length_number))) w → FitsRule (lengths_of w)
lengths_fit w h =
    let m = between length_number (choice (leaf End) length_number) w h in
    let front : front_of 46 (m.0 ++ 46 ∷ 46 ∷ m.1) ≡ m.0 = front_is 46 length_number refl m.0 (46 ∷ m.1) m.3 refl in
    let rest : from_first 46 (m.0 ++ 46 ∷ 46 ∷ m.1) ≡ 46 ∷ 46 ∷ m.1 = rest_is 46 length_number refl m.0 (46 ∷ m.1) m.3 refl in
    subst (λ (x : List ℕ). FitsRule (lengths_of x)) (sym m.2) (
      subst (λ (x : List ℕ). number_of x ≤ most_length) (sym front) (number_bound true most_length m.0 m.3),
      subst (λ (x : List ℕ). IsUpper (upper_of (drop 2 x))) (sym rest) (upper_fits m.1 m.4),
    )

range_fits : (w : List ℕ) → Spells X (sequence int (sequence (word (codes "..")) int)) w → FitsRule (range_of w)
range_fits w h =
    let m = between int int w h in
    let front : front_of 46 (m.0 ++ 46 ∷ 46 ∷ m.1) ≡ m.0 = front_is 46 int refl m.0 (46 ∷ m.1) m.3 refl in
    let rest : from_first 46 (m.0 ++ 46 ∷ 46 ∷ m.1) ≡ 46 ∷ 46 ∷ m.1 = rest_is 46 int refl m.0 (46 ∷ m.1) m.3 refl in
    subst (λ (x : List ℕ). FitsRule (range_of x)) (sym m.2) (
      subst (λ (x : List ℕ). IsInt (int_of x)) (sym front) (int_fits m.0 m.3),
      subst (λ (x : List ℕ). IsInt (int_of (drop 2 x))) (sym rest) (int_fits m.1 m.4),
    )

wide_fits : (w : List ℕ) → Spells X wide w → FitsRule (rule_of w)
wide_fits w (inl h) = let m = after_word (codes "not ") set w h in subst (λ (x : List ℕ). FitsRule (rule_of x)) (sym m.1) tt
wide_fits w (inr (inl h)) = let m = after_word (codes "only ") set w h in subst (λ (x : List ℕ). FitsRule (rule_of x)) (sym m.1) tt
wide_fits w (inr (inr h)) =
    let m = after_word (codes "present") (leaf End) w (w, [], sym (append-nil w), h, refl) in
    subst (λ (x : List ℕ). FitsRule (rule_of x)) (sym m.1) tt

rule_fits : (w : List ℕ) → Spells X rule w → FitsRule (rule_of w)
rule_fits w (inl h) = wide_fits w h
rule_fits w (inr (inl h)) =
    let m = after_word (codes "len ") (sequence length_number (sequence (word (codes "..")) (choice (leaf End) length_number))) w h in
    subst (λ (x : List ℕ). FitsRule (rule_of x)) (sym m.1) (lengths_fit m.0 m.2)
rule_fits w (inr (inr h)) =
    let m = after_word (codes "range ") (sequence int (sequence (word (codes "..")) int)) w h in
    subst (λ (x : List ℕ). FitsRule (rule_of x)) (sym m.1) (range_fits m.0 m.2)

hundreds : (n : ℕ) → n ≤ 999 → n ≤ most_length
hundreds n h = omega (arith, h)

pub term_fits : (w : List ℕ) → Sentence term w → FitsTerm (term_of w)
term_fits w (inl h) =
    let m = after_byte 115 (sequence slot_number (sequence (byte 58) rule)) w h in
    let s = m.2 in
    let r = after_byte 58 rule s.1 s.4 in
    let whole : w ≡ 115 ∷ (s.0 ++ 58 ∷ r.0) = m.1 ∙ ap (λ (x : List ℕ). 115 ∷ x) (s.2 ∙ ap (λ (x : List ℕ). s.0 ++ x) r.1) in
    let front : front_of 58 (s.0 ++ 58 ∷ r.0) ≡ s.0 = front_is 58 slot_number refl s.0 r.0 s.3 refl in
    let rest : from_first 58 (s.0 ++ 58 ∷ r.0) ≡ 58 ∷ r.0 = rest_is 58 slot_number refl s.0 r.0 s.3 refl in
    subst (λ (x : List ℕ). FitsTerm (term_of x)) (sym whole) (record {
      slot = subst (λ (x : List ℕ). IsUpper (Some (number_of x))) (sym front) (λ n e. let same : number_of s.0 ≡ n = cc in subst (λ (k : ℕ). k ≤ most_length) same (hundreds (number_of s.0) (number_bound false 999 s.0 s.3)));
      rule = subst (λ (x : List ℕ). FitsRule (rule_of (drop 1 x))) (sym rest) (rule_fits r.0 r.2);
    })
term_fits w (inr h) =
    let m = after_word (codes "*:") wide w h in
    subst (λ (x : List ℕ). FitsTerm (term_of x)) (sym m.1) (record { slot = λ n e. absurd (cc); rule = wide_fits m.0 m.2 })
