-- Laws of digits: the letters that they have, the numbers that they write, and how many a number has.
use Rattle.std.proofs.Common.{◌≡◌, ℕ, zero, suc, ◌+◌, ◌-◌, ◌*◌, ◌/◌, ◌%◌, ◌<◌, ◌≤◌, ◌⊎◌, inl, inr, List, [], ◌∷◌, ◌++◌, Bool, true, false, cond, ltb, refl, sym, ap, ◌^◌, ◌∙◌, arith, length-append, append_assoc, lit≤}
use Rattle.std.specs.Prelude.{replicate}
use Rattle.std.proofs.Math.Nat.{pow-suc, pow-zero, one-mul, pow-le-pow_left, zero-div, zero-mod, div-eq_of_lt, mod-eq_of_lt}
use Rattle.std.proofs.lemmas.Nat.{div-add-mod', div-mul-add, mod-mul-add, le-div, mod_below, mul-le, div_below}
use Rattle.std.proofs.lemmas.Bool.Decides.{nat_tests}
use Rattle.std.proofs.lemmas.Bool.{le-ltb, lt-ltb}
use Rattle.lf_number.specs.Numbers.{IsRadix, digit_letter, digit_of, digits_within, digits, width, last_digits}
use Rattle.lf_number.specs.Machines.{front, value_after}
use Rattle.lf_core.specs.Choices.{below}

-- letters of digits

pub digit_of-letter : (d : ℕ) → d < 16 → digit_of (digit_letter d) ≡ d
unfolding digit_letter digit_of
digit_of-letter d h = grind (arith, nat_tests)

pub letter-digit_of : (letter : ℕ) → digit_of letter < 16 → digit_letter (digit_of letter) ≡ letter
unfolding digit_letter digit_of
letter-digit_of letter h = grind (arith, nat_tests)

pub digit-byte : (letter : ℕ) → digit_of letter < 16 → letter < 256
unfolding digit_of
digit-byte letter h = grind (arith, nat_tests)

pub minus-no_digit : digit_of 45 ≡ 16
unfolding digit_of
minus-no_digit = refl

pub zero-is_digit : digit_of 48 ≡ 0
unfolding digit_of
zero-is_digit = refl

pub point-no_digit : digit_of 46 ≡ 16
unfolding digit_of
point-no_digit = refl

pub letter-least : (d : ℕ) → 48 ≤ digit_letter d
unfolding digit_letter
letter-least d = grind (arith, nat_tests)

pub letter-zero : digit_letter 0 ≡ 48
unfolding digit_letter
letter-zero = refl

pub letter-positive : (d : ℕ) → 0 < d → 49 ≤ digit_letter d
unfolding digit_letter
letter-positive d h = grind (arith, nat_tests)

pub ten : IsRadix 10
ten = record { least = omega arith; most = omega arith }

pub letter-is : (r : ℕ) → IsRadix r → (c : ℕ) → digit_of c < r → digit_letter (digit_of c) ≡ c
letter-is r is c h = letter-digit_of c (omega (arith, is.most))

-- a digit's letter passes the test for a digit
pub digit-taken : {A : Type 0} (r : ℕ) → IsRadix r → (d : ℕ) (f : ℕ → A) (x : A) → d < r → cond (ltb (digit_of (digit_letter d)) r) (f (digit_of (digit_letter d))) x ≡ f d
digit-taken r is d f x h = rw (digit_of-letter d (omega (arith, is.most)), lt-ltb d r h)

replicate-more : (c j : ℕ) → replicate j c ++ c ∷ [] ≡ replicate (suc j) c
replicate-more c zero = refl
replicate-more c (suc j) = ap (λ (xs : List ℕ). c ∷ xs) (replicate-more c j)

-- quotients by a radix

pub quotient-push : (r p d : ℕ) → d < r → (p * r + d) / r ≡ p
quotient-push r p d h = div-mul-add p r d h

pub rest-push : (r p d : ℕ) → d < r → (p * r + d) % r ≡ d
rest-push r p d h = mod-mul-add p r d h

module _ (r : ℕ) (is : IsRadix r) where
  pub rest-below : (n : ℕ) → n % r < r
  rest-below n = mod_below n r (omega arith)

  pub quotient-less : (k n : ℕ) → n ≤ suc k → n / r ≤ k
  quotient-less k n h =
      let m : suc k * 10 ≤ suc k * r = mul-le (suc k) 10 (suc k) r (omega arith) is.least in
      let b : n / r < suc k = div_below n r (suc k) (omega arith) (omega (arith, m)) in
      omega (arith, b)

  pub quotient-positive : (n : ℕ) → r ≤ n → 0 < n / r
  quotient-positive n h =
      let l : 1 ≤ n / r = le-div 1 n r (omega arith) (omega arith) in
      omega (arith, l)

  pub quotient-rises : (p m : ℕ) → p ≤ m → p / r ≤ m / r
  quotient-rises p m h =
      let w : p / r * r + p % r ≡ p = div-add-mod' p r in
      le-div (p / r) m r (omega arith) (omega arith)

  pub push-least : (p d : ℕ) → 0 < p → r ≤ p * r + d
  push-least p d h =
      let m : 1 * r ≤ p * r = mul-le 1 r p r (omega arith) (omega arith) in
      omega (arith, m)

-- enough divisions are as good as more
same_within : (r : ℕ) → IsRadix r → (j k n : ℕ) → n ≤ j → n ≤ k → digits_within r j n ≡ digits_within r k n
same_within r is zero zero n h g = refl
same_within r is zero (suc k) n h g = let t : ltb n r ≡ true = grind (arith, nat_tests, is.least) in rw t
same_within r is (suc j) zero n h g = let t : ltb n r ≡ true = grind (arith, nat_tests, is.least) in rw t
same_within r is (suc j) (suc k) n h g =
    elim (below n r) [
      | inl t ↦ rw t.0
      | inr t ↦ rw t.0 (ap (λ (ds : List ℕ). ds ++ digit_letter (n % r) ∷ []) (same_within r is j k (n / r) (quotient-less r is j n h) (quotient-less r is k n g)))
    ]

module _ (r : ℕ) (is : IsRadix r) where
  pub digits-one : (n : ℕ) → n < r → digits r n ≡ digit_letter n ∷ []
  unfolding digits
  digits-one zero h = refl
  digits-one (suc n) h = let t : ltb (suc n) r ≡ true = grind (arith, nat_tests) in rw t

  pub digits-more : (n : ℕ) → r ≤ n → digits r n ≡ digits r (n / r) ++ digit_letter (n % r) ∷ []
  unfolding digits
  digits-more zero h = absurd (omega (arith, is.least))
  digits-more (suc n) h =
      let t : ltb (suc n) r ≡ false = grind (arith, nat_tests) in
      rw t (ap (λ (ds : List ℕ). ds ++ digit_letter (suc n % r) ∷ []) (same_within r is n (suc n / r) (suc n / r) (quotient-less r is n (suc n) (omega arith)) (omega arith)))

  pub digits-push : (p d : ℕ) → 0 < p → d < r → digits r (p * r + d) ≡ digits r p ++ digit_letter d ∷ []
  digits-push p d h g =
      rw (digits-more (p * r + d) (push-least r is p d h), quotient-push r p d g, rest-push r p d g)

  pub width-one : (n : ℕ) → n < r → width r n ≡ 1
  unfolding width
  width-one n h = rw (digits-one n h)

  pub width-more : (n : ℕ) → r ≤ n → width r n ≡ width r (n / r) + 1
  unfolding width
  width-more n h = rw (digits-more n h) (length-append (digits r (n / r)) (digit_letter (n % r) ∷ []))

  pub width-push : (p d : ℕ) → 0 < p → d < r → width r (p * r + d) ≡ width r p + 1
  width-push p d h g =
      rw (width-more (p * r + d) (push-least r is p d h), quotient-push r p d g)

  width-least-within : (k n : ℕ) → n ≤ k → 1 ≤ width r n
  width-least-within zero n h = omega (arith, width-one n (omega (arith, is.least)))
  width-least-within (suc k) n h =
      elim (below n r) [
        | inl t ↦ omega (arith, width-one n t.1)
        | inr t ↦ omega (arith, width-more n t.1)
      ]

  pub width-least : (n : ℕ) → 1 ≤ width r n
  width-least n = width-least-within n n (omega arith)

  width-rises-within : (k m p : ℕ) → m ≤ k → p ≤ m → width r p ≤ width r m
  width-rises-within zero m p h g = let e : p ≡ m = omega arith in rw e (omega arith)
  width-rises-within (suc k) m p h g =
      elim (below p r) [
        | inl t ↦ omega (arith, width-one p t.1, width-least m)
        | inr t ↦ omega (arith, width-more p t.1, width-more m (omega (arith, t.1)), width-rises-within k (m / r) (p / r) (quotient-less r is k m h) (quotient-rises r is p m g))
      ]

  pub width-rises : (m p : ℕ) → p ≤ m → width r p ≤ width r m
  width-rises m p g = width-rises-within m m p (omega arith) g

  pub width-most : (j n : ℕ) → n < r ^ suc j → width r n ≤ suc j
  width-most zero n h =
      let z : r ^ zero ≡ 1 = pow-zero r in
      let e : r ^ suc zero ≡ r = pow-suc r zero ∙ ap (λ (x : ℕ). x * r) z ∙ one-mul r in
      omega (arith, width-one n (rw e at h))
  width-most (suc j) n h =
      elim (below n r) [
        | inl t ↦ omega (arith, width-one n t.1)
        | inr t ↦
            let g : n < r ^ suc j * r = rw (pow-suc r (suc j)) at h in
            let q : n / r < r ^ suc j = div_below n r (r ^ suc j) (omega (arith, is.least)) g in
            omega (arith, width-more n t.1, width-most j (n / r) q)
      ]

  pub width-u64 : (n : ℕ) → n < 2 ^ 64 → width r n ≤ 20
  width-u64 n h =
      let l : 2 ^ 64 ≤ 10 ^ 20 = lit≤ tt in
      let m : 10 ^ 20 ≤ r ^ 20 = pow-le-pow_left is.least 20 in
      width-most 19 n (omega arith)

-- to take the last digit away first
pub front-quotient : (r m j : ℕ) → front r (m / r) j ≡ front r m (suc j)
front-quotient r m zero = refl
front-quotient r m (suc j) = rw (front-quotient r m j)

pub front-push : (r p d j : ℕ) → d < r → front r (p * r + d) (suc j) ≡ front r p j
front-push r p d j h = sym (front-quotient r (p * r + d) j) ∙ ap (λ (m : ℕ). front r m j) (quotient-push r p d h)

nothing : (r : ℕ) → 0 * r + 0 ≡ 0
nothing r = omega arith

pub front-zero : (r j : ℕ) → front r 0 j ≡ 0
front-zero r zero = refl
front-zero r (suc j) = rw (front-zero r j) (zero-div r)

module _ (r : ℕ) (is : IsRadix r) where
  -- past a number's digits nothing is left
  pub front-none : (j m : ℕ) → width r m ≤ j → front r m j ≡ 0
  front-none zero m h = absurd (omega (arith, width-least r is m))
  front-none (suc j) m h =
      elim (below m r) [
        | inl t ↦ sym (front-quotient r m j) ∙ ap (λ (q : ℕ). front r q j) (div-eq_of_lt t.1) ∙ front-zero r j
        | inr t ↦
            let w = width-more r is m t.1 in
            sym (front-quotient r m j) ∙ front-none j (m / r) (omega arith)
      ]

  pub front-all : (m : ℕ) → front r m (width r m) ≡ 0
  front-all m = front-none (width r m) m (omega arith)

  -- where nothing is left the digits were no more
  pub none-front : (j m : ℕ) → front r m j ≡ 0 → width r m ≤ suc j
  none-front zero m h = omega (arith, width-one r is m (omega (arith, is.least)))
  none-front (suc j) m h =
      elim (below m r) [
        | inl t ↦ omega (arith, width-one r is m t.1)
        | inr t ↦ omega (arith, width-more r is m t.1, none-front j (m / r) (front-quotient r m j ∙ h))
      ]

  value-letter : (acc d : ℕ) → d < r → value_after r acc (digit_letter d ∷ []) ≡ acc * r + d
  value-letter acc d h =
      digit-taken r is d (λ (x : ℕ). acc * r + x) acc h

  pub value_after-append : (xs ys : List ℕ) (acc : ℕ) → value_after r acc (xs ++ ys) ≡ value_after r (value_after r acc xs) ys
  value_after-append [] ys acc = refl
  value_after-append (x ∷ xs) ys acc = value_after-append xs ys (cond (ltb (digit_of x) r) (acc * r + digit_of x) acc)

  -- other letters are passed over
  pub value-other : (c : ℕ) (cs : List ℕ) (acc : ℕ) → digit_of c ≡ 16 → value_after r acc (c ∷ cs) ≡ value_after r acc cs
  value-other c cs acc e =
      let t : ltb (digit_of c) r ≡ false = le-ltb (digit_of c) r (omega (arith, is.most)) in
      ap (λ (b : Bool). value_after r (cond b (acc * r + digit_of c) acc) cs) t

  pub value-zeros : (k : ℕ) → value_after r 0 (replicate k 48) ≡ 0
  value-zeros zero = refl
  value-zeros (suc k) =
      let t : ltb (digit_of 48) r ≡ true = rw zero-is_digit (lt-ltb 0 r (omega (arith, is.least))) in
      ap (λ (b : Bool). value_after r (cond b (0 * r + digit_of 48) 0) (replicate k 48)) t
      ∙ ap (λ (d : ℕ). value_after r (0 * r + d) (replicate k 48)) zero-is_digit
      ∙ ap (λ (a : ℕ). value_after r a (replicate k 48)) (nothing r)
      ∙ value-zeros k

  value-digits-within : (k n : ℕ) → n ≤ k → value_after r 0 (digits r n) ≡ n
  value-digits-within zero n h = let z : n < r = omega (arith, is.least) in rw (digits-one r is n z) (value-letter 0 n z ∙ omega arith)
  value-digits-within (suc k) n h =
      elim (below n r) [
        | inl t ↦ rw (digits-one r is n t.1) (value-letter 0 n t.1 ∙ omega arith)
        | inr t ↦
            rw (digits-more r is n t.1, value_after-append (digits r (n / r)) (digit_letter (n % r) ∷ []) 0, value-digits-within k (n / r) (quotient-less r is k n h))
            (value-letter (n / r) (n % r) (rest-below r is n) ∙ div-add-mod' n r)
      ]

  -- reading back what was written
  pub value-digits : (n : ℕ) → value_after r 0 (digits r n) ≡ n
  value-digits n = value-digits-within n n (omega arith)

  pub value-last : (j n : ℕ) → value_after r (front r n j) (last_digits r j n) ≡ n
  value-last zero n = refl
  value-last (suc j) n =
      value_after-append (last_digits r j (n / r)) (digit_letter (n % r) ∷ []) (front r n (suc j))
      ∙ ap (λ (a : ℕ). value_after r (value_after r a (last_digits r j (n / r))) (digit_letter (n % r) ∷ [])) (sym (front-quotient r n j))
      ∙ ap (λ (a : ℕ). value_after r a (digit_letter (n % r) ∷ [])) (value-last j (n / r))
      ∙ value-letter (n / r) (n % r) (rest-below r is n)
      ∙ div-add-mod' n r

  digits-head-within : (k n : ℕ) → n ≤ k → (c : ℕ) × (cs : List ℕ) × (digits r n ≡ c ∷ cs) × (48 ≤ c) × (0 < n → 49 ≤ c)
  digits-head-within zero n h = (digit_letter n, [], digits-one r is n (omega (arith, is.least)), letter-least n, letter-positive n)
  digits-head-within (suc k) n h =
      elim (below n r) [
        | inl t ↦ (digit_letter n, [], digits-one r is n t.1, letter-least n, letter-positive n)
        | inr t ↦
            let q = digits-head-within k (n / r) (quotient-less r is k n h) in
            (q.0, q.1 ++ digit_letter (n % r) ∷ [], digits-more r is n t.1 ∙ ap (λ (ds : List ℕ). ds ++ digit_letter (n % r) ∷ []) q.2, q.3, λ _. q.4 (quotient-positive r is n t.1))
      ]

  -- the first digit, which is zero only of zero
  pub digits-head : (n : ℕ) → (c : ℕ) × (cs : List ℕ) × (digits r n ≡ c ∷ cs) × (48 ≤ c) × (0 < n → 49 ≤ c)
  digits-head n = digits-head-within n n (omega arith)

  pub last-push : (j p d : ℕ) → d < r → last_digits r (suc j) (p * r + d) ≡ last_digits r j p ++ digit_letter d ∷ []
  last-push j p d h = rw (quotient-push r p d h, rest-push r p d h)

  last-zeros : (j : ℕ) → last_digits r j 0 ≡ replicate j 48
  last-zeros zero = refl
  last-zeros (suc j) = rw (zero-div r, last-zeros j, zero-mod r, letter-zero) (replicate-more 48 j)

  -- the last digits of a number with no more of them
  pub last-padded : (j n : ℕ) → width r n ≤ j → last_digits r j n ≡ replicate (j - width r n) 48 ++ digits r n
  last-padded zero n h = absurd (omega (arith, width-least r is n))
  last-padded (suc j) n h =
      elim (below n r) [
        | inl t ↦
            let e : suc j - 1 ≡ j = omega arith in
            rw (width-one r is n t.1, digits-one r is n t.1, e, div-eq_of_lt t.1, mod-eq_of_lt t.1, last-zeros j)
        | inr t ↦
            let w = width-more r is n t.1 in
            let e : suc j - width r n ≡ j - width r (n / r) = omega arith in
            rw (e, digits-more r is n t.1, last-padded j (n / r) (omega arith)) (append_assoc (replicate (j - width r (n / r)) 48) (digits r (n / r)) (digit_letter (n % r) ∷ []))
      ]
