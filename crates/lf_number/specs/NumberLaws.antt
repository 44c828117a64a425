-- Numbers in decimal: a reading of a sign and digits accepts exactly the texts of those in the range.
use Rattle.std.proofs.Common.{◌≡◌, ℕ, zero, suc, ◌+◌, ◌-◌, ◌*◌, ◌/◌, ◌%◌, ◌<◌, ◌≤◌, ◌⊎◌, inl, inr, List, [], ◌∷◌, ◌++◌, Option, None, Some, Bool, true, false, cond, not, ltb, ◌==◌, ◌&&◌, refl, sym, ap, subst, ◌∙◌, arith, append_assoc, add-zero}
use Rattle.std.specs.Prelude.{ℤ, pos, negsuc, ◌≤ℤ◌}
use Rattle.std.proofs.lemmas.Int.{ints}
use Rattle.std.proofs.lemmas.Nat.{div-add-mod'}
use Rattle.std.proofs.lemmas.Bool.Decides.{nat_tests, leb_tells}
use Rattle.std.proofs.lemmas.Bool.{cases_Bool, lt-ltb, ltb-true, and_parts}
use Rattle.std.proofs.lemmas.Option.{cond_some}
use Rattle.lf_core.specs.Domain.{IsDomain}
use Rattle.lf_core.specs.AcceptsLaws.{IsImage, map_option, guarded}
use Rattle.lf_number.specs.Digits.{ten, letter-is, digit_of-letter, letter-digit_of, digit-byte, minus-no_digit, zero-is_digit, letter-zero, digits-one, digits-push, width-one, width-more, width-push, width-least, width-rises, value-digits, digits-head}
use Rattle.lf_number.specs.Free.{free_place, free-first, free-next, free-least, free-most, free-whole_low, free-whole_high, free_first-least, free_first-most, free_next-least, free_next-most}
use Rattle.lf_number.specs.Range.{range-pos, pos-range, range-neg, neg-range}
use Rattle.lf_number.specs.ReadingLaws.{IsReading, AcceptsNumbers, reading_accepts, num_laws}
use Rattle.lf_number.specs.Numbers.{digit_letter, digit_of, decimal, width, magnitude, is_negative, number_text, most_digits, half_points, number_size, IsBetween, HoldsNumber, num_text}
use Rattle.lf_number.specs.Machines.{value_after, comparison, in_range, shifted, free_first, free_next, number_first, number_digit, number_next, number_done, number_ends, number_machine}
use Rattle.lf_core.specs.Choices.{below, unwrap}

-- what was read so far of a number with a sign
data Reading : Type 0 where
  begun : Bool → Reading
  lone_zero : Reading
  whole : Bool → ℕ → Reading

pub zero-text : decimal 0 ≡ 48 ∷ []
zero-text = digits-one 10 ten 0 (omega arith) ∙ ap (λ (x : ℕ). x ∷ []) letter-zero

pub zero-letter : (letter : ℕ) → (digit_of letter == 0) ≡ true → 48 ≡ letter
zero-letter letter h =
    let z : digit_of letter ≡ 0 = grind (arith, nat_tests) in
    sym letter-zero ∙ ap digit_letter (sym z) ∙ letter-digit_of letter (omega arith)

pub below-magnitude : (hi : ℤ) (n : ℕ) → pos n ≤ℤ hi → n ≤ magnitude hi
below-magnitude (pos b) n h = omega (arith, ints)
below-magnitude (negsuc b) n h = absurd (omega (arith, ints))

above-magnitude : (lo : ℤ) (n : ℕ) → lo ≤ℤ negsuc n → suc n ≤ magnitude lo
above-magnitude (pos a) n h = absurd (omega (arith, ints))
above-magnitude (negsuc a) n h = omega (arith, ints)

low-negative : (lo : ℤ) (n : ℕ) → lo ≤ℤ negsuc n → is_negative lo ≡ true
low-negative (pos a) n l = absurd (omega (arith, ints))
low-negative (negsuc a) n l = refl

-- places of digits are neither the start nor the lone zero
pub place-apart : (at : ℕ) → 2 ≤ at → ((at == 0) ≡ false) × ((at == 1) ≡ false)
place-apart at h = (grind (arith, nat_tests), grind (arith, nat_tests))

pub cond-true : {A : Type 0} (b : Bool) (x y : A) → b ≡ true → cond b x y ≡ x
cond-true true x y h = refl
cond-true false x y h = cc

pub cond-false : {A : Type 0} (b : Bool) (x y : A) → b ≡ false → cond b x y ≡ y
cond-false true x y h = cc
cond-false false x y h = refl

pub by_true : {A : Type 0} (b : Bool) (x y : Option A) (t : A) → b ≡ true → cond b x y ≡ Some t → x ≡ Some t
by_true b x y t h e = sym (cond-true b x y h) ∙ e

pub by_false : {A : Type 0} (b : Bool) (x y : Option A) (t : A) → b ≡ false → cond b x y ≡ Some t → y ≡ Some t
by_false b x y t h e = sym (cond-false b x y h) ∙ e

pub guarded_true : (b x : Bool) → cond b x false ≡ true → (b ≡ true) × (x ≡ true)
guarded_true true x e = (refl, e)
guarded_true false x e = cc

pub not_zero : (n : ℕ) → 0 < n → (n == 0) ≡ false
not_zero n h = grind (arith, nat_tests)

pub is_zero : (n : ℕ) → (n == 0) ≡ true → n ≡ 0
is_zero n h = grind (arith, nat_tests)

module _ (lo hi : ℤ) where
  abbrev read : Reading → ℕ → Option Reading
  read (begun negative) letter =
      cond (ltb (digit_of letter) 10)
      (cond (digit_of letter == 0) (cond negative None (Some lone_zero)) (Some (whole negative (digit_of letter))))
      (cond ((letter == 45 && not negative) && is_negative lo) (Some (begun true)) None)
  read lone_zero letter = None
  read (whole negative p) letter =
      cond (ltb (digit_of letter) 10)
      (cond (ltb (width 10 p) (most_digits lo hi)) (Some (whole negative (p * 10 + digit_of letter))) None)
      None

  abbrev is_read : Reading → Bool
  is_read (begun negative) = false
  is_read lone_zero = in_range lo hi false (comparison 0 (magnitude lo)) (comparison 0 (magnitude hi))
  is_read (whole negative p) = in_range lo hi negative (comparison p (magnitude lo)) (comparison p (magnitude hi))

  abbrev Signed : Bool → Type 0
  Signed false = Unit {0}
  Signed true = is_negative lo ≡ true

  abbrev CanRead : Reading → Type 0
  CanRead (begun negative) = Signed negative
  CanRead lone_zero = Unit {0}
  CanRead (whole negative p) = Signed negative × (0 < p) × (width 10 p ≤ most_digits lo hi)

  abbrev shown : Reading → List ℕ
  shown (begun negative) = cond negative (45 ∷ []) []
  shown lone_zero = 48 ∷ []
  shown (whole negative p) = cond negative (45 ∷ []) [] ++ decimal p

  abbrev base : Bool → ℕ
  base negative = cond negative (half_points lo hi) 0

  abbrev rest : Reading → ℕ
  rest (begun negative) = 0
  rest lone_zero = 1
  rest (whole negative p) = free_place 10 ten (magnitude lo) (magnitude hi) p

  abbrev sign : Reading → Bool
  sign (begun negative) = negative
  sign lone_zero = false
  sign (whole negative p) = negative

  abbrev point : Reading → ℕ
  point r = base (sign r) + rest r

  -- the steps of the reading

  begun-digit : (negative : Bool) (letter : ℕ) → ltb (digit_of letter) 10 ≡ true → read (begun negative) letter ≡ cond (digit_of letter == 0) (cond negative None (Some lone_zero)) (Some (whole negative (digit_of letter)))
  begun-digit negative letter d = rw d

  whole-digit : (negative : Bool) (p letter : ℕ) → ltb (digit_of letter) 10 ≡ true → read (whole negative p) letter ≡ cond (ltb (width 10 p) (most_digits lo hi)) (Some (whole negative (p * 10 + digit_of letter))) None
  whole-digit negative p letter d = rw d

  abbrev Step : Reading → ℕ → Reading → Type 0
  Step s c t = CanRead t × (shown t ≡ shown s ++ c ∷ [])

  zero-step : (negative : Bool) (c : ℕ) (t : Reading) → 48 ≡ c → cond negative None (Some lone_zero) ≡ Some t → Step (begun negative) c t
  zero-step true c t y e = cc
  zero-step false c t y e =
      subst (λ (x : Reading). Step (begun false) c x) (unwrap lone_zero t e) (tt, ap (λ (x : ℕ). x ∷ []) y)

  sign-step : (negative : Bool) (c : ℕ) (t : Reading) → cond ((c == 45 && not negative) && is_negative lo) (Some (begun true)) None ≡ Some t → Step (begun negative) c t
  sign-step true c t e =
      let g = cond_some ((c == 45 && false) && is_negative lo) (begun true) t e in
      let f = and_parts (c == 45 && false) (is_negative lo) g.0 in
      let k = and_parts (c == 45) false f.0 in
      let z = k.1 in
      cc
  sign-step false c t e =
      let g = cond_some ((c == 45 && true) && is_negative lo) (begun true) t e in
      let f = and_parts (c == 45 && true) (is_negative lo) g.0 in
      let k = and_parts (c == 45) true f.0 in
      let y : 45 ≡ c = grind (arith, nat_tests, k.0) in
      subst (λ (x : Reading). Step (begun false) c x) g.1 (f.1, ap (λ (x : ℕ). x ∷ []) y)

  first-step : (negative : Bool) (c : ℕ) (t : Reading) → Signed negative → digit_of c < 10 → 0 < digit_of c → whole negative (digit_of c) ≡ t → Step (begun negative) c t
  first-step negative c t h d n e =
      subst (λ (x : Reading). Step (begun negative) c x) e
      ((h, n, omega (arith, width-one 10 ten (digit_of c) d, width-least 10 ten (magnitude lo))), ap (λ (x : List ℕ). cond negative (45 ∷ []) [] ++ x) (digits-one 10 ten (digit_of c) d ∙ ap (λ (x : ℕ). x ∷ []) (letter-is 10 ten c d)))

  whole-step : (negative : Bool) (p c : ℕ) (t : Reading) → CanRead (whole negative p) → digit_of c < 10 → width 10 p + 1 ≤ most_digits lo hi → whole negative (p * 10 + digit_of c) ≡ t → Step (whole negative p) c t
  whole-step negative p c t h d w e =
      subst (λ (x : Reading). Step (whole negative p) c x) e (
        (h.0, omega (arith, h.1), omega (arith, w, width-push 10 ten p (digit_of c) h.1 d)),
        ap (λ (x : List ℕ). cond negative (45 ∷ []) [] ++ x) (digits-push 10 ten p (digit_of c) h.1 d ∙ ap (λ (x : ℕ). decimal p ++ x ∷ []) (letter-is 10 ten c d)) ∙ sym (append_assoc (cond negative (45 ∷ []) []) (decimal p) (c ∷ [])),
      )

  step : (s : Reading) (c : ℕ) (t : Reading) → CanRead s → read s c ≡ Some t → Step s c t
  step (begun negative) c t h e =
      elim (cases_Bool (ltb (digit_of c) 10)) [
        | inl d ↦
            let f = rw d at e in
            let l = ltb-true (digit_of c) 10 d in
            elim (cases_Bool (digit_of c == 0)) [
              | inl z ↦
                  let y : 48 ≡ c = zero-letter c z in
                  zero-step negative c t y (rw z at f)
              | inr z ↦
                  let n : 0 < digit_of c = grind (arith, nat_tests) in
                  first-step negative c t h l n (unwrap (whole negative (digit_of c)) t (rw z at f))
            ]
        | inr d ↦ sign-step negative c t (rw d at e)
      ]
  step lone_zero c t h e = cc
  step (whole negative p) c t h e =
      let f = guarded (ltb (digit_of c) 10) (cond (ltb (width 10 p) (most_digits lo hi)) (Some (whole negative (p * 10 + digit_of c))) None) t e in
      let g = cond_some (ltb (width 10 p) (most_digits lo hi)) (whole negative (p * 10 + digit_of c)) t f.1 in
      whole-step negative p c t h (ltb-true (digit_of c) 10 f.0) (omega (arith, ltb-true (width 10 p) (most_digits lo hi) g.0)) g.1

  first-digit : (negative : Bool) (n : ℕ) → 0 < n → n < 10 → read (begun negative) (digit_letter n) ≡ Some (whole negative n)
  first-digit negative n h g =
      let e : digit_of (digit_letter n) ≡ n = digit_of-letter n (omega arith) in
      let d : ltb n 10 ≡ true = lt-ltb n 10 g in
      let z : (n == 0) ≡ false = grind (arith, nat_tests) in
      rw (e, d, z)

  more-digit : (negative : Bool) (p : ℕ) → 10 ≤ p → width 10 p ≤ most_digits lo hi → read (whole negative (p / 10)) (digit_letter (p % 10)) ≡ Some (whole negative p)
  more-digit negative p h g =
      let e : digit_of (digit_letter (p % 10)) ≡ p % 10 = digit_of-letter (p % 10) (omega arith) in
      let d : ltb (p % 10) 10 ≡ true = lt-ltb (p % 10) 10 (omega arith) in
      let w : width 10 (p / 10) < most_digits lo hi = omega (arith, width-more 10 ten p h) in
      let t : ltb (width 10 (p / 10)) (most_digits lo hi) ≡ true = lt-ltb (width 10 (p / 10)) (most_digits lo hi) w in
      rw (e, d, t) (ap (λ (m : ℕ). Some (whole negative m)) (div-add-mod' p 10))

  before : (t : Reading) → CanRead t → (t ≡ begun false) ⊎ ((s : Reading) × (c : ℕ) × CanRead s × (read s c ≡ Some t))
  before (begun false) h = inl refl
  before (begun true) h = inr (begun false, 45, tt, rw (minus-no_digit, h))
  before lone_zero h = inr (begun false, 48, tt, rw zero-is_digit)
  before (whole negative p) h =
      elim (below p 10) [
        | inl t ↦ inr (begun negative, digit_letter p, h.0, first-digit negative p h.1 t.1)
        | inr t ↦ inr (whole negative (p / 10), digit_letter (p % 10), (h.0, omega (arith, t.1), omega (arith, h.2, width-more 10 ten p t.1)), more-digit negative p t.1 h.2)
      ]

  number_reading : IsReading read (begun false) shown CanRead
  number_reading = record {
    begins = tt;
    empty = refl;
    keeps = λ s c t h e. (step s c t h e).0;
    more = λ s t c h e. (step s c t h e).1;
    before = before;
  }

  -- the numbers of its states

  next-digit : (negative : Bool) (at letter : ℕ) → at < half_points lo hi → ltb (digit_of letter) 10 ≡ true → number_next lo hi (base negative + at) letter ≡ number_digit lo hi (base negative) negative at (digit_of letter)
  next-digit false at letter h d =
      let e : 0 + at ≡ at = omega arith in
      let t : ltb at (half_points lo hi) ≡ true = lt-ltb at (half_points lo hi) h in
      rw (d, e, t)
  next-digit true at letter h d =
      let t : ltb (half_points lo hi + at) (half_points lo hi) ≡ false = grind (arith, nat_tests) in
      let e : (half_points lo hi + at) - half_points lo hi ≡ at = omega arith in
      rw (d, t, e)

  next-other : (at letter : ℕ) → ltb (digit_of letter) 10 ≡ false → number_next lo hi at letter ≡ cond ((letter == 45 && at == 0) && is_negative lo) (Some (half_points lo hi)) None
  next-other at letter d = rw d

  rest-small : (r : Reading) → CanRead r → rest r < half_points lo hi
  rest-small (begun negative) h = omega arith
  rest-small lone_zero h = omega (arith, width-least 10 ten (magnitude lo))
  rest-small (whole negative p) h = free-most 10 ten (magnitude lo) (magnitude hi) p (most_digits lo hi) h.2

  first-zero : (negative : Bool) → number_first lo hi (base negative) negative 0 ≡ map_option point (cond negative None (Some lone_zero))
  first-zero true = refl
  first-zero false = refl

  first-image : (negative : Bool) (digit : ℕ) → digit < 10 →
      number_first lo hi (base negative) negative digit ≡ map_option point (cond (digit == 0) (cond negative None (Some lone_zero)) (Some (whole negative digit)))
  first-image negative digit h =
      elim (leb_tells digit 0) [
        | inl t ↦
            let e : digit ≡ 0 = omega (arith, t.1) in
            rw e (first-zero negative)
        | inr t ↦
            let e : (digit == 0) ≡ false = grind (arith, nat_tests) in
            rw (e, free-first 10 ten (magnitude lo) (magnitude hi) digit h)
      ]

  more-image : (negative : Bool) (p digit : ℕ) → 0 < p → digit < 10 →
      number_digit lo hi (base negative) negative (rest (whole negative p)) digit
      ≡ map_option point (cond (ltb (width 10 p) (most_digits lo hi)) (Some (whole negative (p * 10 + digit))) None)
  more-image negative p digit h g =
      let z = place-apart (rest (whole negative p)) (free-least 10 ten (magnitude lo) (magnitude hi) p) in
      rw (z.0, z.1, free-next 10 ten (magnitude lo) (magnitude hi) p digit (most_digits lo hi) h g)
      (elim (cases_Bool (ltb (width 10 p) (most_digits lo hi))) [
        | inl t ↦ rw t
        | inr t ↦ rw t
      ])

  no_sign : (letter at : ℕ) (b : Bool) (o : Option ℕ) → 0 < at → cond ((letter == 45 && at == 0) && b) o None ≡ None
  no_sign letter at b o h = grind (arith, nat_tests)

  point-positive : (negative : Bool) (p : ℕ) → 0 < point (whole negative p)
  point-positive negative p = omega (arith, free-least 10 ten (magnitude lo) (magnitude hi) p)

  minus_again : (x y : Bool) → cond {A = Option Reading} ((x && false) && y) (Some (begun true)) None ≡ None
  minus_again true y = refl
  minus_again false y = refl

  goes-sign : (negative : Bool) (letter : ℕ) → ltb (digit_of letter) 10 ≡ false → number_next lo hi (point (begun negative)) letter ≡ map_option point (read (begun negative) letter)
  goes-sign false letter d =
      elim (cases_Bool ((letter == 45 && true) && is_negative lo)) [
        | inl e ↦ rw (d, e) (ap Some (sym (add-zero (half_points lo hi))))
        | inr e ↦ rw (d, e)
      ]
  goes-sign true letter d =
      let n : number_next lo hi (point (begun true)) letter ≡ None = next-other (point (begun true)) letter d ∙ no_sign letter (point (begun true)) (is_negative lo) (Some (half_points lo hi)) (omega arith) in
      let m : read (begun true) letter ≡ None = rw d (minus_again (letter == 45) (is_negative lo)) in
      n ∙ ap (map_option point) (sym m)

  goes : (s : Reading) (letter : ℕ) → CanRead s → number_next lo hi (point s) letter ≡ map_option point (read s letter)
  goes (begun negative) letter h =
      elim (cases_Bool (ltb (digit_of letter) 10)) [
        | inl d ↦ next-digit negative 0 letter (omega arith) d ∙ first-image negative (digit_of letter) (ltb-true (digit_of letter) 10 d) ∙ ap (map_option point) (sym (begun-digit negative letter d))
        | inr d ↦ goes-sign negative letter d
      ]
  goes lone_zero letter h =
      elim (cases_Bool (ltb (digit_of letter) 10)) [
        | inl d ↦ next-digit false 1 letter (rest-small lone_zero h) d
        | inr d ↦ next-other 1 letter d ∙ no_sign letter 1 (is_negative lo) (Some (half_points lo hi)) (omega arith)
      ]
  goes (whole negative p) letter h =
      elim (cases_Bool (ltb (digit_of letter) 10)) [
        | inl d ↦ next-digit negative (rest (whole negative p)) letter (rest-small (whole negative p) h) d
            ∙ more-image negative p (digit_of letter) h.1 (ltb-true (digit_of letter) 10 d)
            ∙ ap (map_option point) (sym (whole-digit negative p letter d))
        | inr d ↦
            let o : read (whole negative p) letter ≡ None = rw d in
            next-other (point (whole negative p)) letter d ∙ no_sign letter (point (whole negative p)) (is_negative lo) (Some (half_points lo hi)) (point-positive negative p)
            ∙ ap (map_option point) (sym o)
      ]

  ends-at : (negative : Bool) (at : ℕ) → at < half_points lo hi → number_ends lo hi (base negative + at) ≡ number_done lo hi negative at
  ends-at false at h =
      let e : 0 + at ≡ at = omega arith in
      let t : ltb at (half_points lo hi) ≡ true = lt-ltb at (half_points lo hi) h in
      rw (e, t)
  ends-at true at h =
      let t : ltb (half_points lo hi + at) (half_points lo hi) ≡ false = grind (arith, nat_tests) in
      let e : (half_points lo hi + at) - half_points lo hi ≡ at = omega arith in
      rw (t, e)

  same : (s : Reading) → CanRead s → number_ends lo hi (point s) ≡ is_read s
  same (begun negative) h = ends-at negative 0 (omega arith)
  same lone_zero h = ends-at false 1 (rest-small lone_zero h)
  same (whole negative p) h =
      let z = place-apart (rest (whole negative p)) (free-least 10 ten (magnitude lo) (magnitude hi) p) in
      ends-at negative (rest (whole negative p)) (rest-small (whole negative p) h)
      ∙ rw (z.0, z.1, free-whole_low 10 ten (magnitude lo) (magnitude hi) p, free-whole_high 10 ten (magnitude lo) (magnitude hi) p)

  number_image : IsImage read is_read (number_next lo hi) (number_ends lo hi) point CanRead
  number_image = record { goes = goes; keeps = λ s c t h e. (step s c t h e).0; same = same }

  -- the numbers that its ends show

  tells : (t : Reading) → CanRead t → is_read t ≡ true → (n : ℤ) × IsBetween lo hi n × (number_text n ≡ shown t)
  tells (begun negative) h e = cc
  tells lone_zero h e = (pos 0, range-pos lo hi 0 e, zero-text)
  tells (whole false p) h e = (pos p, range-pos lo hi p e, refl)
  tells (whole true zero) h e = absurd (omega (arith, h.1))
  tells (whole true (suc p)) h e = (negsuc p, range-neg lo hi p e, refl)

  -- a number in the range has no more digits than the bounds
  fits-pos : (n : ℕ) → lo ≤ℤ pos (suc n) → pos (suc n) ≤ℤ hi → width 10 (suc n) ≤ most_digits lo hi
  fits-pos n l m =
      let k = below-magnitude hi (suc n) m in
      omega (arith, width-rises 10 ten (magnitude hi) (suc n) k)

  fits-neg : (n : ℕ) → lo ≤ℤ negsuc n → width 10 (suc n) ≤ most_digits lo hi
  fits-neg n l =
      let k = above-magnitude lo n l in
      omega (arith, width-rises 10 ten (magnitude lo) (suc n) k)

  told : (n : ℤ) → IsBetween lo hi n → (t : Reading) × CanRead t × (is_read t ≡ true) × (shown t ≡ number_text n)
  told (pos zero) h = (lone_zero, tt, pos-range lo hi 0 h.0 h.1, sym zero-text)
  told (pos (suc n)) h = (whole false (suc n), (tt, omega arith, fits-pos n h.0 h.1), pos-range lo hi (suc n) h.0 h.1, refl)
  told (negsuc n) h = (whole true (suc n), (low-negative lo n h.0, omega arith, fits-neg n h.0), neg-range lo hi n h.0 h.1, refl)

  pub number_accepts : AcceptsNumbers (IsBetween lo hi) number_text (number_machine lo hi)
  number_accepts =
      reading_accepts read is_read (begun false) shown CanRead number_reading (IsBetween lo hi) number_text
      (record { tells = tells; told = told }) (number_machine lo hi) point number_image refl

pub below-zero : (lo : ℤ) (k : ℕ) → pos 0 ≤ℤ lo → lo ≤ℤ negsuc k → ⊥
below-zero lo k l h = omega (arith, ints)

-- two numbers have two texts

decimal-distinct : (n m : ℕ) → decimal n ≡ decimal m → n ≡ m
decimal-distinct n m e = sym (value-digits 10 ten n) ∙ ap (value_after 10 0) e ∙ value-digits 10 ten m

no-minus : (n : ℕ) (tail : List ℕ) → decimal n ≡ 45 ∷ tail → ⊥
no-minus n tail e =
    let r = digits-head 10 ten n in
    let q : r.0 ∷ r.1 ≡ 45 ∷ tail = sym r.2 ∙ e in
    let z : r.0 ≡ 45 = cc in
    let g = r.3 in
    omega arith

pub number-distinct : (a b : ℤ) → number_text a ≡ number_text b → a ≡ b
number-distinct (pos n) (pos m) e = ap pos (decimal-distinct n m e)
number-distinct (pos n) (negsuc m) e = absurd (no-minus n (decimal (suc m)) e)
number-distinct (negsuc n) (pos m) e = absurd (no-minus m (decimal (suc n)) (sym e))
number-distinct (negsuc n) (negsuc m) e =
    let q : decimal (suc n) ≡ decimal (suc m) = cc in
    let z = decimal-distinct (suc n) (suc m) q in
    cc

-- so have two that are not negative, where a text gives back its number
pub value-distinct : (r : ℕ) (f : ℤ → List ℕ) → ((k : ℕ) → value_after r 0 (f (pos k)) ≡ k) → (lo hi : ℤ) → pos 0 ≤ℤ lo → (n m : ℤ) → IsBetween lo hi n → IsBetween lo hi m → f n ≡ f m → n ≡ m
value-distinct r f back lo hi low (pos n) (pos m) h g e = ap pos (sym (back n) ∙ ap (value_after r 0) e ∙ back m)
value-distinct r f back lo hi low (pos n) (negsuc m) h g e = absurd (below-zero lo m low g.0)
value-distinct r f back lo hi low (negsuc n) m h g e = absurd (below-zero lo n low h.0)

pub none_some : (a : ℕ) → None ≡ Some a → ⊥
none_some a e = cc

lone_one : (negative : Bool) (after : ℕ) → cond negative None (Some 1) ≡ Some after → 1 ≡ after
lone_one true after e = cc
lone_one false after e = cc

shifted-some : (base : ℕ) (o : Option ℕ) (after : ℕ) → shifted base o ≡ Some after → (at : ℕ) × (o ≡ Some at) × (base + at ≡ after)
shifted-some base None after e = cc
shifted-some base (Some at) after e = (at, refl, cc)

module _ (lo hi : ℤ) where
  pub size-least : (after : ℕ) → after < half_points lo hi → after < number_size lo hi
  size-least after h =
      elim (cases_Bool (is_negative lo)) [
        | inl n ↦ rw n (omega arith)
        | inr n ↦ rw n h
      ]

  size-twice : (point after : ℕ) → point < number_size lo hi → half_points lo hi ≤ point → after < half_points lo hi + half_points lo hi → after < number_size lo hi
  size-twice point after h g a =
      elim (cases_Bool (is_negative lo)) [
        | inl n ↦ rw n (omega arith)
        | inr n ↦ let k = rw n at h in absurd (omega (arith, k))
      ]

  first-stays : (base : ℕ) (negative : Bool) (digit after : ℕ) → number_first lo hi base negative digit ≡ Some after → (0 < after) × (after < base + half_points lo hi)
  first-stays base negative digit after e =
      elim (cases_Bool (digit == 0)) [
        | inl z ↦
            let f = lone_one negative after (rw z at e) in
            (omega (arith, f), omega (arith, f))
        | inr z ↦
            let f = unwrap (base + free_first 10 (magnitude lo) (magnitude hi) digit) after (rw z at e) in
            let l = free_first-least 10 (magnitude lo) (magnitude hi) digit in
            let m = free_first-most 10 (magnitude lo) (magnitude hi) digit (most_digits lo hi) (omega (arith, width-least 10 ten (magnitude lo))) in
            rw (← f) (omega (arith, l), omega (arith, m))
      ]

  digit-stays : (base : ℕ) (negative : Bool) (at digit after : ℕ) → number_digit lo hi base negative at digit ≡ Some after → (0 < after) × (after < base + half_points lo hi)
  digit-stays base negative at digit after e =
      elim (cases_Bool (at == 0)) [
        | inl z ↦ first-stays base negative digit after (rw z at e)
        | inr z ↦
            elim (cases_Bool (at == 1)) [
              | inl o ↦ absurd (none_some after (rw (z, o) at e))
              | inr o ↦
                  let f = shifted-some base (free_next 10 (most_digits lo hi) (magnitude lo) (magnitude hi) at digit) after (rw (z, o) at e) in
                  let l = free_next-least 10 (magnitude lo) (magnitude hi) (most_digits lo hi) at digit f.0 f.1 in
                  let m = free_next-most 10 (magnitude lo) (magnitude hi) (most_digits lo hi) at digit f.0 f.1 in
                  rw (← f.2) (omega (arith, l), omega (arith, m))
            ]
      ]

  -- no letter leads past the points, or back to the start
  pub number-stays : (point letter after : ℕ) → point < number_size lo hi → number_next lo hi point letter ≡ Some after → (letter < 256) × (after < number_size lo hi) × (0 < after)
  number-stays point letter after h e =
      elim (cases_Bool (ltb (digit_of letter) 10)) [
        | inl d ↦
            let l = digit-byte letter (omega (arith, ltb-true (digit_of letter) 10 d)) in
            elim (below point (half_points lo hi)) [
              | inl t ↦
                  let f = digit-stays 0 false point (digit_of letter) after (rw (d, t.0) at e) in
                  (l, size-least after (omega (arith, f.1)), f.0)
              | inr t ↦
                  let f = digit-stays (half_points lo hi) true (point - half_points lo hi) (digit_of letter) after (rw (d, t.0) at e) in
                  (l, size-twice point after h t.1 f.1, f.0)
            ]
        | inr d ↦
            let f = cond_some ((letter == 45 && point == 0) && is_negative lo) (half_points lo hi) after (rw d at e) in
            let a = and_parts (letter == 45 && point == 0) (is_negative lo) f.0 in
            let b = and_parts (letter == 45) (point == 0) a.0 in
            let l : letter < 256 = grind (arith, nat_tests, b.0) in
            (l, rw (a.1, ← f.1) (omega arith), rw (← f.1) (omega arith))
      ]

pub number_laws : (lo hi : ℤ) → IsDomain (HoldsNumber lo hi) (num_text number_text) (number_machine lo hi) (number_size lo hi)
number_laws lo hi =
    num_laws (IsBetween lo hi) number_text (number_machine lo hi) (number_size lo hi) (number_accepts lo hi)
    (λ n m _ _ e. number-distinct n m e) (size-least lo hi 0 (omega arith))
    (λ at c t h e. let s = number-stays lo hi at c t h e in (s.0, s.1)) (omega arith)
