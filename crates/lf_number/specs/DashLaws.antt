-- Numbers whose zero is `-`: those of a range of digits, with the letter of the lone zero exchanged.
use Rattle.std.proofs.Common.{◌≡◌, ℕ, zero, suc, ◌<◌, ◌≤◌, ◌⊎◌, inl, inr, List, [], ◌∷◌, Option, None, Some, Bool, true, false, cond, ◌==◌, refl, sym, ap, ◌∙◌, arith}
use Rattle.std.specs.Prelude.{ℤ, pos, negsuc, ◌≤ℤ◌}
use Rattle.std.proofs.lemmas.Int.{ints}
use Rattle.std.proofs.lemmas.Bool.Decides.{nat_tests}
use Rattle.lf_core.specs.Domain.{accepts, IsDomain}
use Rattle.lf_core.specs.AcceptsLaws.{accepts-image, accepts-step, accepts-stop, map_option, IsImage}
use Rattle.lf_number.specs.Digits.{ten, value-digits, value-other, minus-no_digit, digits-head}
use Rattle.lf_number.specs.ReadingLaws.{num_laws}
use Rattle.lf_number.specs.NumberLaws.{number_accepts, size-least, number-stays, below-zero, value-distinct, zero-text}
use Rattle.lf_number.specs.Numbers.{decimal, is_negative, number_text, dash_text, number_size, dash_size, IsBetween, HoldsNumber, num_text}
use Rattle.lf_number.specs.Machines.{value_after, exchanged, number_next, number_ends, dash_next, dash_machine}
use Rattle.lf_core.specs.Choices.{option_cases}

exchanged-twice : (c : ℕ) → exchanged (exchanged c) ≡ c
exchanged-twice c = grind (arith, nat_tests)

exchanged-byte : (c : ℕ) → exchanged c < 256 → c < 256
exchanged-byte c h = grind (arith, nat_tests)

exchanged-other : (c : ℕ) → 49 ≤ c → exchanged c ≡ c
exchanged-other c h = grind (arith, nat_tests)

dash-other : (n : ℕ) → dash_text (pos (suc n)) ≡ decimal (suc n)
dash-other n = let z : (suc n == 0) ≡ false = grind (arith, nat_tests) in rw z

-- the text is the digits with the first letter exchanged
dash-head : (n : ℕ) → (c : ℕ) × (cs : List ℕ) × (number_text (pos n) ≡ c ∷ cs) × (dash_text (pos n) ≡ exchanged c ∷ cs)
dash-head zero = (48, [], zero-text, refl)
dash-head (suc n) =
    let r = digits-head 10 ten (suc n) in
    (r.0, r.1, r.2, dash-other n ∙ r.2 ∙ ap (λ (c : ℕ). c ∷ r.1) (sym (exchanged-other r.0 (r.4 (omega arith)))))

heads : (c d : ℕ) (cs ds : List ℕ) → c ∷ cs ≡ d ∷ ds → (c ≡ d) × (cs ≡ ds)
heads c d cs ds e = (cc, cc)

dash-text : (n c : ℕ) (cs : List ℕ) → number_text (pos n) ≡ exchanged c ∷ cs → dash_text (pos n) ≡ c ∷ cs
dash-text n c cs e =
    let r = dash-head n in
    let h = heads r.0 (exchanged c) r.1 cs (sym r.2 ∙ e) in
    r.3 ∙ ap (λ (d : ℕ). exchanged d ∷ r.1) h.0 ∙ ap (λ (d : ℕ). d ∷ r.1) (exchanged-twice c) ∙ ap (λ (ds : List ℕ). c ∷ ds) h.1

-- reading back what was written
pub dash-value : (n : ℕ) → value_after 10 0 (dash_text (pos n)) ≡ n
dash-value zero = value-other 10 ten 45 [] 0 minus-no_digit
dash-value (suc n) = ap (value_after 10 0) (dash-other n) ∙ value-digits 10 ten (suc n)

-- the numbers of such a range are not negative
pub held-positive : (lo hi n : ℤ) → pos 0 ≤ℤ lo → IsBetween lo hi n → (k : ℕ) × (n ≡ pos k)
held-positive lo hi (pos k) l h = (k, refl)
held-positive lo hi (negsuc k) l h = let a = h.0 in absurd (omega (arith, ints))

pub not-negative : (lo : ℤ) → pos 0 ≤ℤ lo → is_negative lo ≡ false
not-negative (pos k) h = refl
not-negative (negsuc k) h = absurd (omega (arith, ints))

empty-apart : (c : ℕ) (cs : List ℕ) → c ∷ cs ≡ [] → ⊥
empty-apart c cs e = cc

letter-byte : (b : Bool) (c : ℕ) → cond b (exchanged c) c < 256 → c < 256
letter-byte true c h = exchanged-byte c h
letter-byte false c h = h

map-self : (o : Option ℕ) → o ≡ map_option (λ (at : ℕ). at) o
map-self None = refl
map-self (Some at) = refl

module _ (lo hi : ℤ) where
  abbrev IsPast : ℕ → Type 0
  IsPast at = (0 < at) × (at < number_size lo hi)

  goes-past : (at letter after : ℕ) → at < number_size lo hi → number_next lo hi at letter ≡ Some after → IsPast after
  goes-past at letter after h e = let s = number-stays lo hi at letter after h e in (s.2, s.1)

  dash-next : (at letter : ℕ) → 0 < at → dash_next lo hi at letter ≡ number_next lo hi at letter
  dash-next at letter h = let z : (at == 0) ≡ false = grind (arith, nat_tests) in rw z

  dash-image : IsImage (number_next lo hi) (number_ends lo hi) (dash_next lo hi) (number_ends lo hi) (λ (at : ℕ). at) IsPast
  dash-image = record {
    goes = λ at c h. dash-next at c h.0 ∙ map-self (number_next lo hi at c);
    keeps = λ at c t h e. goes-past at c t h.1 e;
    same = λ at h. refl;
  }

  accepts-exchanged : (c : ℕ) (cs : List ℕ) → accepts (dash_next lo hi) (number_ends lo hi) 0 (c ∷ cs) ≡ accepts (number_next lo hi) (number_ends lo hi) 0 (exchanged c ∷ cs)
  accepts-exchanged c cs =
      elim (option_cases (number_next lo hi 0 (exchanged c))) [
        | inl none ↦ accepts-stop (dash_next lo hi) (number_ends lo hi) 0 c cs none ∙ sym (accepts-stop (number_next lo hi) (number_ends lo hi) 0 (exchanged c) cs none)
        | inr some ↦
            accepts-step (dash_next lo hi) (number_ends lo hi) 0 some.0 c cs some.1
            ∙ accepts-image (number_next lo hi) (number_ends lo hi) (dash_next lo hi) (number_ends lo hi) (λ (at : ℕ). at) IsPast dash-image cs some.0 (goes-past 0 (exchanged c) some.0 (size-least lo hi 0 (omega arith)) some.1)
            ∙ sym (accepts-step (number_next lo hi) (number_ends lo hi) 0 some.0 (exchanged c) cs some.1)
      ]

module _ (lo hi : ℤ) (low : pos 0 ≤ℤ lo) where
  dash-sound : (text : List ℕ) → accepts (dash_next lo hi) (number_ends lo hi) 0 text ≡ true → (n : ℤ) × IsBetween lo hi n × (dash_text n ≡ text)
  dash-sound [] a =
      let r = (number_accepts lo hi).sound [] a in
      let p = held-positive lo hi r.0 low r.1 in
      let h = dash-head p.0 in
      absurd (empty-apart h.0 h.1 (sym h.2 ∙ ap number_text (sym p.1) ∙ r.2))
  dash-sound (c ∷ cs) a =
      let r = (number_accepts lo hi).sound (exchanged c ∷ cs) (sym (accepts-exchanged lo hi c cs) ∙ a) in
      let p = held-positive lo hi r.0 low r.1 in
      (r.0, r.1, ap dash_text p.1 ∙ dash-text p.0 c cs (ap number_text (sym p.1) ∙ r.2))

  complete-at : (k : ℕ) → IsBetween lo hi (pos k) → accepts (dash_next lo hi) (number_ends lo hi) 0 (dash_text (pos k)) ≡ true
  complete-at k h =
      let r = dash-head k in
      ap (accepts (dash_next lo hi) (number_ends lo hi) 0) r.3
      ∙ accepts-exchanged lo hi (exchanged r.0) r.1
      ∙ ap (λ (c : ℕ). accepts (number_next lo hi) (number_ends lo hi) 0 (c ∷ r.1)) (exchanged-twice r.0)
      ∙ ap (accepts (number_next lo hi) (number_ends lo hi) 0) (sym r.2)
      ∙ (number_accepts lo hi).complete (pos k) h

  dash-complete : (n : ℤ) → IsBetween lo hi n → accepts (dash_next lo hi) (number_ends lo hi) 0 (dash_text n) ≡ true
  dash-complete (pos k) h = complete-at k h
  dash-complete (negsuc k) h = absurd (below-zero lo k low h.0)

  size-is : number_size lo hi ≡ dash_size lo hi
  size-is = rw (not-negative lo low)

  dash-stays : (point letter after : ℕ) → point < dash_size lo hi → dash_next lo hi point letter ≡ Some after → (letter < 256) × (after < dash_size lo hi)
  dash-stays point letter after h e =
      let f = number-stays lo hi point (cond (point == 0) (exchanged letter) letter) after (rw size-is h) e in
      (letter-byte (point == 0) letter f.0, rw size-is at f.1)

  pub dash_laws : IsDomain (HoldsNumber lo hi) (num_text dash_text) (dash_machine lo hi) (dash_size lo hi)
  dash_laws =
      num_laws (IsBetween lo hi) dash_text (dash_machine lo hi) (dash_size lo hi)
      (record { sound = dash-sound; complete = dash-complete }) (value-distinct 10 dash_text dash-value lo hi low) (omega arith) dash-stays (omega arith)
