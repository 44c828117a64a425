-- Numbers of a least width: after a first digit zero the digits are counted, and else they are free.
use Rattle.std.proofs.Common.{◌≡◌, ℕ, zero, suc, ◌+◌, ◌-◌, ◌*◌, ◌/◌, ◌%◌, ◌<◌, ◌≤◌, ◌⊎◌, inl, inr, List, [], ◌∷◌, ◌++◌, Option, None, Some, Bool, true, false, cond, ltb, leb, ◌==◌, refl, sym, ap, subst, ◌∙◌, arith}
use Rattle.std.specs.Prelude.{ℤ, pos, negsuc, ◌≤ℤ◌, replicate}
use Rattle.std.proofs.Math.Nat.{zero-mod}
use Rattle.std.proofs.lemmas.Nat.{div-add-mod'}
use Rattle.std.proofs.lemmas.Bool.Decides.{nat_tests}
use Rattle.std.proofs.lemmas.Bool.{cases_Bool, lt-ltb, ltb-true}
use Rattle.std.proofs.lemmas.Option.{cond_some}
use Rattle.lf_core.specs.Domain.{IsDomain}
use Rattle.lf_core.specs.AcceptsLaws.{map_option, IsImage, guarded}
use Rattle.lf_number.specs.Digits.{letter-is, digit-taken, digit-byte, digits-one, digits-push, width-one, width-more, width-push, width-least, width-rises, quotient-positive, rest-below, push-least, front-quotient, front-push, front-none, front-zero, none-front, last-push, last-padded, value-digits, value-zeros, value_after-append}
use Rattle.lf_number.specs.Sides.{comparison-most}
use Rattle.lf_number.specs.Free.{free-least, free-count, free-whole_low, free-whole_high, counted_at, counted-most}
use Rattle.lf_number.specs.Range.{range-pos, pos-range}
use Rattle.lf_number.specs.Mixed.{Reading, begun, lone_zero, whole, counted, point, read_digit, IsFree, digit-goes, free-below, mixed-most, under_test, done-at}
use Rattle.lf_number.specs.ReadingLaws.{IsReading, AcceptsNumbers, reading_accepts, num_laws}
use Rattle.lf_number.specs.NumberLaws.{place-apart, below-magnitude, below-zero, value-distinct, cond-true, not_zero, is_zero, guarded_true}
use Rattle.lf_number.specs.Numbers.{IsRadix, digit_letter, digit_of, digits, width, magnitude, last_digits, padded_text, padded_digits, padded_size, IsBetween, HoldsNumber, num_text}
use Rattle.lf_number.specs.Machines.{value_after, front, comparison, in_range, mixed_digit, counted_done, padded_zero, padded_next, padded_ends, padded_machine}
use Rattle.lf_core.specs.Choices.{below, unwrap}

at_least : (least k : ℕ) → least ≤ k → leb least k ≡ true
at_least least k h = grind (arith, nat_tests)

from_least : (least k : ℕ) → leb least k ≡ true → least ≤ k
from_least least k h = grind (arith, nat_tests)

module _ (r : ℕ) (is : IsRadix r) where
  last-zero : last_digits r 1 0 ≡ digit_letter 0 ∷ []
  last-zero = ap (λ (x : ℕ). digit_letter x ∷ []) (zero-mod r)

  push-positive : (p d : ℕ) → 0 < p → 0 < p * r + d
  push-positive p d h = omega (arith, push-least r is p d h, is.least)

  -- reading back what was written
  pub padded-value : (least n : ℕ) → value_after r 0 (padded_text r least (pos n)) ≡ n
  padded-value least n =
      value_after-append r is (replicate (least - width r n) 48) (digits r n) 0
      ∙ ap (λ (a : ℕ). value_after r a (digits r n)) (value-zeros r is (least - width r n))
      ∙ value-digits r is n

module _ (r : ℕ) (is : IsRadix r) (least : ℕ) (lo hi : ℤ) where
  -- the digits of a number whose first digit is zero
  abbrev top : ℕ
  top = suc (least - 1)

  abbrev at_point : Reading → ℕ
  at_point s = point r is (padded_digits r least hi) (magnitude lo) (magnitude hi) (magnitude lo) (magnitude hi) top s

  abbrev digit_read : Reading → ℕ → Option Reading
  digit_read s digit = read_digit r is (padded_digits r least hi) (magnitude lo) (magnitude hi) (magnitude lo) (magnitude hi) top (counted 1 0) s digit

  abbrev read : Reading → ℕ → Option Reading
  read s letter = cond (ltb (digit_of letter) r) (digit_read s (digit_of letter)) None

  abbrev ends_counted : ℕ → ℕ → Bool
  ends_counted done q =
      cond (top - done == 0) (in_range lo hi false (comparison q (front r (magnitude lo) (top - done))) (comparison q (front r (magnitude hi) (top - done)))) false

  abbrev is_read : Reading → Bool
  is_read begun = false
  is_read lone_zero = false
  is_read (whole p) = cond (leb least (width r p)) (in_range lo hi false (comparison p (magnitude lo)) (comparison p (magnitude hi))) false
  is_read (counted done q) = ends_counted done q

  abbrev CanRead : Reading → Type 0
  CanRead begun = Unit {0}
  CanRead lone_zero = ⊥
  CanRead (whole p) = (0 < p) × (width r p ≤ padded_digits r least hi)
  CanRead (counted zero q) = ⊥
  CanRead (counted (suc done) q) = (done ≤ least - 1) × (front r q done ≡ 0)

  abbrev shown : Reading → List ℕ
  shown begun = []
  shown lone_zero = []
  shown (whole p) = digits r p
  shown (counted done q) = last_digits r done q

  abbrev Step : Reading → ℕ → Reading → Type 0
  Step s c t = CanRead t × (shown t ≡ shown s ++ c ∷ [])

  most-least : 1 ≤ padded_digits r least hi
  most-least = omega (arith, width-least r is (magnitude hi))

  first-step : (c : ℕ) (t : Reading) → digit_of c < r → digit_read begun (digit_of c) ≡ Some t → Step begun c t
  first-step c t d e =
      elim (cases_Bool (digit_of c == 0)) [
        | inl z ↦
            let y : digit_of c ≡ 0 = is_zero (digit_of c) z in
            subst (λ (x : Reading). Step begun c x) (unwrap (counted 1 0) t (rw z at e))
            ((omega arith, refl), last-zero r is ∙ ap (λ (x : ℕ). digit_letter x ∷ []) (sym y) ∙ ap (λ (x : ℕ). x ∷ []) (letter-is r is c d))
        | inr z ↦
            let n : 0 < digit_of c = grind (arith, nat_tests) in
            subst (λ (x : Reading). Step begun c x) (unwrap (whole (digit_of c)) t (rw z at e))
            ((n, omega (arith, width-one r is (digit_of c) d, most-least)), digits-one r is (digit_of c) d ∙ ap (λ (x : ℕ). x ∷ []) (letter-is r is c d))
      ]

  whole-step : (p c : ℕ) (t : Reading) → CanRead (whole p) → digit_of c < r → digit_read (whole p) (digit_of c) ≡ Some t → Step (whole p) c t
  whole-step p c t h d e =
      let g = cond_some (ltb (width r p) (padded_digits r least hi)) (whole (p * r + digit_of c)) t e in
      let l = ltb-true (width r p) (padded_digits r least hi) g.0 in
      subst (λ (x : Reading). Step (whole p) c x) g.1 (
        (push-positive r is p (digit_of c) h.0, omega (arith, l, width-push r is p (digit_of c) h.0 d)),
        digits-push r is p (digit_of c) h.0 d ∙ ap (λ (x : ℕ). digits r p ++ x ∷ []) (letter-is r is c d),
      )

  counted-step : (done q c : ℕ) (t : Reading) → CanRead (counted (suc done) q) → digit_of c < r → digit_read (counted (suc done) q) (digit_of c) ≡ Some t → Step (counted (suc done) q) c t
  counted-step done q c t h d e =
      let g = cond_some (ltb (suc done) top) (counted (suc (suc done)) (q * r + digit_of c)) t e in
      let l = ltb-true (suc done) top g.0 in
      subst (λ (x : Reading). Step (counted (suc done) q) c x) g.1 (
        (omega (arith, l), front-push r q (digit_of c) done d ∙ h.1),
        last-push r is (suc done) q (digit_of c) d ∙ ap (λ (x : ℕ). last_digits r (suc done) q ++ x ∷ []) (letter-is r is c d),
      )

  digit-step : (s : Reading) (c : ℕ) (t : Reading) → CanRead s → digit_of c < r → digit_read s (digit_of c) ≡ Some t → Step s c t
  digit-step begun c t h d e = first-step c t d e
  digit-step lone_zero c t h d e = absurd h
  digit-step (whole p) c t h d e = whole-step p c t h d e
  digit-step (counted zero q) c t h d e = absurd h
  digit-step (counted (suc done) q) c t h d e = counted-step done q c t h d e

  step : (s : Reading) (c : ℕ) (t : Reading) → CanRead s → read s c ≡ Some t → Step s c t
  step s c t h e =
      let g = guarded (ltb (digit_of c) r) (digit_read s (digit_of c)) t e in
      digit-step s c t h (ltb-true (digit_of c) r g.0) g.1

  read-digit : (s : Reading) (n : ℕ) → n < r → read s (digit_letter n) ≡ digit_read s n
  read-digit s n h = digit-taken r is n (digit_read s) None h

  abbrev Before : Reading → Type 0
  Before t = (t ≡ begun) ⊎ ((s : Reading) × (c : ℕ) × CanRead s × (read s c ≡ Some t))

  before-whole : (p : ℕ) → CanRead (whole p) → Before (whole p)
  before-whole p h =
      elim (below p r) [
        | inl t ↦
            let z : (p == 0) ≡ false = not_zero p h.0 in
            let e : digit_read begun p ≡ Some (whole p) = rw z in
            inr (begun, digit_letter p, tt, read-digit begun p t.1 ∙ e)
        | inr t ↦
            let w = width-more r is p t.1 in
            let l : ltb (width r (p / r)) (padded_digits r least hi) ≡ true = lt-ltb (width r (p / r)) (padded_digits r least hi) (omega (arith, h.1)) in
            let e : digit_read (whole (p / r)) (p % r) ≡ Some (whole p) = rw l (ap (λ (m : ℕ). Some (whole m)) (div-add-mod' p r)) in
            inr (whole (p / r), digit_letter (p % r), (quotient-positive r is p t.1, omega (arith, h.1)), read-digit (whole (p / r)) (p % r) (rest-below r is p) ∙ e)
      ]

  before-zero : (q : ℕ) → 0 ≡ q → Before (counted 1 q)
  before-zero q e =
      subst (λ (x : ℕ). Before (counted 1 x)) e (inr (begun, digit_letter 0, tt, read-digit begun 0 (omega (arith, is.least))))

  before-counted : (done q : ℕ) → CanRead (counted (suc (suc done)) q) → Before (counted (suc (suc done)) q)
  before-counted done q h =
      let l : ltb (suc done) top ≡ true = lt-ltb (suc done) top (omega (arith, h.0)) in
      let e : digit_read (counted (suc done) (q / r)) (q % r) ≡ Some (counted (suc (suc done)) q) = rw l (ap (λ (m : ℕ). Some (counted (suc (suc done)) m)) (div-add-mod' q r)) in
      inr (counted (suc done) (q / r), digit_letter (q % r), (omega (arith, h.0), front-quotient r q done ∙ h.1), read-digit (counted (suc done) (q / r)) (q % r) (rest-below r is q) ∙ e)

  before : (t : Reading) → CanRead t → Before t
  before begun h = inl refl
  before lone_zero h = absurd h
  before (whole p) h = before-whole p h
  before (counted zero q) h = absurd h
  before (counted (suc zero) q) h = before-zero q (sym h.1)
  before (counted (suc (suc done)) q) h = before-counted done q h

  padded_reading : IsReading read begun shown CanRead
  padded_reading = record {
    begins = tt;
    empty = refl;
    keeps = λ s c t h e. (step s c t h e).0;
    more = λ s t c h e. (step s c t h e).1;
    before = before;
  }

  -- the numbers of its states

  free : (s : Reading) → CanRead s → IsFree r is (padded_digits r least hi) (magnitude lo) (magnitude hi) (magnitude lo) (magnitude hi) top s
  free begun h = tt
  free lone_zero h = tt
  free (whole p) h = h
  free (counted done q) h = tt

  zero-point : padded_zero r least lo hi ≡ at_point (counted 1 0)
  zero-point =
      let e : least - 1 ≡ top - 1 = omega arith in
      ap (λ (x : ℕ). (9 * padded_digits r least hi + 2) + counted_at r (magnitude lo) (magnitude hi) x 0) e

  abbrev next_digit : ℕ → Reading → ℕ → Option ℕ
  next_digit first s digit = mixed_digit r (padded_digits r least hi) (magnitude lo) (magnitude hi) (magnitude lo) (magnitude hi) first (at_point s) digit

  goes : (s : Reading) (c : ℕ) → CanRead s → padded_next r least lo hi (at_point s) c ≡ map_option at_point (read s c)
  goes s c h =
      under_test at_point (ltb (digit_of c) r) (next_digit (padded_zero r least lo hi) s (digit_of c)) None (digit_read s (digit_of c)) None
      (λ d. ap (λ (x : ℕ). next_digit x s (digit_of c)) zero-point
      ∙ digit-goes r is (padded_digits r least hi) (magnitude lo) (magnitude hi) (magnitude lo) (magnitude hi) top (counted 1 0) s (digit_of c) (free s h) (ltb-true (digit_of c) r d))
      (λ _. refl)

  ends-past : (x : ℕ) → padded_ends r least lo hi ((9 * padded_digits r least hi + 2) + x) ≡ counted_done lo hi x
  ends-past x =
      let z : ((9 * padded_digits r least hi + 2) + x == 0) ≡ false = not_zero ((9 * padded_digits r least hi + 2) + x) (omega arith) in
      let t : ltb ((9 * padded_digits r least hi + 2) + x) (9 * padded_digits r least hi + 2) ≡ false = grind (arith, nat_tests) in
      let e : ((9 * padded_digits r least hi + 2) + x) - (9 * padded_digits r least hi + 2) ≡ x = omega arith in
      rw (z, t, e)

  same-whole : (p : ℕ) → CanRead (whole p) → padded_ends r least lo hi (at_point (whole p)) ≡ is_read (whole p)
  same-whole p h =
      let z = place-apart (at_point (whole p)) (free-least r is (magnitude lo) (magnitude hi) p) in
      let t = free-below r is (padded_digits r least hi) (magnitude lo) (magnitude hi) (magnitude lo) (magnitude hi) top p h.1 in
      rw (z.0, t, free-whole_low r is (magnitude lo) (magnitude hi) p, free-whole_high r is (magnitude lo) (magnitude hi) p, free-count r is (magnitude lo) (magnitude hi) p)

  same : (s : Reading) → CanRead s → padded_ends r least lo hi (at_point s) ≡ is_read s
  same begun h = refl
  same lone_zero h = absurd h
  same (whole p) h = same-whole p h
  same (counted done q) h =
      ends-past (counted_at r (magnitude lo) (magnitude hi) (top - done) q) ∙ done-at lo hi r (magnitude lo) (magnitude hi) (top - done) q

  padded_image : IsImage read is_read (padded_next r least lo hi) (padded_ends r least lo hi) at_point CanRead
  padded_image = record { goes = goes; keeps = λ s c t h e. (step s c t h e).0; same = same }

  -- the numbers that its ends show

  text-whole : (p : ℕ) → least ≤ width r p → padded_text r least (pos p) ≡ digits r p
  text-whole p h =
      let e : least - width r p ≡ 0 = omega arith in
      ap (λ (k : ℕ). replicate k 48 ++ digits r p) e

  text-counted : (q : ℕ) → width r q ≤ top → padded_text r least (pos q) ≡ last_digits r top q
  text-counted q h =
      let one = width-least r is q in
      let e : least - width r q ≡ top - width r q = omega arith in
      ap (λ (k : ℕ). replicate k 48 ++ digits r q) e ∙ sym (last-padded r is top q h)

  abbrev Told : ℕ → ℕ → Type 0
  Told q done = (n : ℤ) × IsBetween lo hi n × (padded_text r least n ≡ last_digits r done q)

  tells-all : (q : ℕ) → width r q ≤ top → (x : ℕ) → x ≡ 0 → in_range lo hi false (comparison q (front r (magnitude lo) x)) (comparison q (front r (magnitude hi) x)) ≡ true → Told q top
  tells-all q w x z e =
      let f = subst (λ (y : ℕ). in_range lo hi false (comparison q (front r (magnitude lo) y)) (comparison q (front r (magnitude hi) y)) ≡ true) z e in
      (pos q, range-pos lo hi q f, text-counted q w)

  tells-counted : (done q : ℕ) → CanRead (counted (suc done) q) → ends_counted (suc done) q ≡ true → Told q (suc done)
  tells-counted done q h e =
      let g = guarded_true (top - suc done == 0) (in_range lo hi false (comparison q (front r (magnitude lo) (top - suc done))) (comparison q (front r (magnitude hi) (top - suc done)))) e in
      let z : top - suc done ≡ 0 = is_zero (top - suc done) g.0 in
      let d : least - 1 ≡ done = omega (arith, h.0) in
      let w : width r q ≤ top = omega (arith, none-front r is done q h.1) in
      subst (λ (x : ℕ). Told q (suc x)) d (tells-all q w (top - suc done) z g.1)

  tells : (t : Reading) → CanRead t → is_read t ≡ true → (n : ℤ) × IsBetween lo hi n × (padded_text r least n ≡ shown t)
  tells begun h e = cc
  tells lone_zero h e = absurd h
  tells (whole p) h e =
      let g = guarded_true (leb least (width r p)) (in_range lo hi false (comparison p (magnitude lo)) (comparison p (magnitude hi))) e in
      (pos p, range-pos lo hi p g.1, text-whole p (from_least least (width r p) g.0))
  tells (counted zero q) h e = absurd h
  tells (counted (suc done) q) h e = tells-counted done q h e

  abbrev Shows : ℕ → Type 0
  Shows k = (t : Reading) × CanRead t × (is_read t ≡ true) × (shown t ≡ padded_text r least (pos k))

  -- a number that is shown by counted digits
  told-counted : (k : ℕ) → IsBetween lo hi (pos k) → width r k ≤ top → front r k (least - 1) ≡ 0 → Shows k
  told-counted k h w f =
      let z : top - top ≡ 0 = omega arith in
      let e : ends_counted top k ≡ true = ap (λ (x : ℕ). cond (x == 0) (in_range lo hi false (comparison k (front r (magnitude lo) x)) (comparison k (front r (magnitude hi) x))) false) z ∙ pos-range lo hi k h.0 h.1 in
      (counted top k, (omega arith, f), e, sym (text-counted k w))

  told-whole : (k : ℕ) → IsBetween lo hi (pos k) → 0 < k → least ≤ width r k → Shows k
  told-whole k h n w =
      let b = below-magnitude hi k h.1 in
      let m = width-rises r is (magnitude hi) k b in
      let t : leb least (width r k) ≡ true = at_least least (width r k) w in
      let e : is_read (whole k) ≡ true = cond-true (leb least (width r k)) (in_range lo hi false (comparison k (magnitude lo)) (comparison k (magnitude hi))) false t ∙ pos-range lo hi k h.0 h.1 in
      (whole k, (n, omega arith), e, sym (text-whole k w))

  told-positive : (k : ℕ) → IsBetween lo hi (pos k) → Shows k
  told-positive zero h =
      let w = width-one r is 0 (omega (arith, is.least)) in
      told-counted 0 h (omega arith) (front-zero r (least - 1))
  told-positive (suc k) h =
      elim (below (width r (suc k)) least) [
        | inl t ↦ told-counted (suc k) h (omega (arith, t.1)) (front-none r is (least - 1) (suc k) (omega (arith, t.1)))
        | inr t ↦ told-whole (suc k) h (omega arith) t.1
      ]

  zero-below : padded_zero r least lo hi < padded_size r least hi
  zero-below =
      let m = counted-most (least - 1) (comparison 0 (front r (magnitude lo) (least - 1))) (comparison 0 (front r (magnitude hi) (least - 1))) (comparison-most 0 (front r (magnitude lo) (least - 1))) (comparison-most 0 (front r (magnitude hi) (least - 1))) (padded_digits r least hi - 1) (omega arith) in
      omega (arith, m, most-least)

  padded-stays : (at letter after : ℕ) → at < padded_size r least hi → padded_next r least lo hi at letter ≡ Some after → (letter < 256) × (after < padded_size r least hi)
  padded-stays at letter after h e =
      let g = guarded (ltb (digit_of letter) r) (mixed_digit r (padded_digits r least hi) (magnitude lo) (magnitude hi) (magnitude lo) (magnitude hi) (padded_zero r least lo hi) at (digit_of letter)) after e in
      let one = most-least in
      let z = zero-below in
      let m = mixed-most r is (padded_digits r least hi) (magnitude lo) (magnitude hi) (magnitude lo) (magnitude hi) top (padded_zero r least lo hi) at (digit_of letter) after (padded_digits r least hi - 1) one (omega arith) (omega arith) g.1 in
      let d = ltb-true (digit_of letter) r g.0 in
      (digit-byte letter (omega (arith, is.most)), omega arith)

  module _ (low : pos 0 ≤ℤ lo) where
    told : (n : ℤ) → IsBetween lo hi n → (t : Reading) × CanRead t × (is_read t ≡ true) × (shown t ≡ padded_text r least n)
    told (pos k) h = told-positive k h
    told (negsuc k) h = absurd (below-zero lo k low h.0)

    padded_accepts : AcceptsNumbers (IsBetween lo hi) (padded_text r least) (padded_machine r least lo hi)
    padded_accepts =
        reading_accepts read is_read begun shown CanRead padded_reading (IsBetween lo hi) (padded_text r least)
        (record { tells = tells; told = told }) (padded_machine r least lo hi) at_point padded_image refl

    pub padded_laws : IsDomain (HoldsNumber lo hi) (num_text (padded_text r least)) (padded_machine r least lo hi) (padded_size r least hi)
    padded_laws =
        num_laws (IsBetween lo hi) (padded_text r least) (padded_machine r least lo hi) (padded_size r least hi)
        padded_accepts (value-distinct r (padded_text r least) (padded-value r is least) lo hi low) (omega arith) padded-stays (omega arith)
