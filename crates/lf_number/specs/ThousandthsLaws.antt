-- Numbers in thousandths: the whole part is free, and the three digits after the point are counted.
use Rattle.std.proofs.Common.{◌≡◌, ℕ, zero, suc, ◌+◌, ◌-◌, ◌*◌, ◌/◌, ◌%◌, ◌<◌, ◌≤◌, ◌⊎◌, inl, inr, List, [], ◌∷◌, ◌++◌, Option, None, Some, Bool, true, false, cond, ltb, ◌==◌, refl, sym, ap, subst, ◌∙◌, arith, append_assoc}
use Rattle.std.specs.Prelude.{ℤ, pos, negsuc, ◌≤ℤ◌}
use Rattle.std.proofs.lemmas.Nat.{div-add-mod'}
use Rattle.std.proofs.lemmas.Bool.Decides.{nat_tests}
use Rattle.std.proofs.lemmas.Bool.{cases_Bool, lt-ltb, ltb-true}
use Rattle.std.proofs.lemmas.Option.{cond_some}
use Rattle.lf_core.specs.Domain.{IsDomain}
use Rattle.lf_core.specs.AcceptsLaws.{map_option, IsImage, guarded}
use Rattle.lf_number.specs.Digits.{ten, letter-is, digit-taken, digit-byte, point-no_digit, zero-is_digit, digits-one, digits-push, width-one, width-more, width-push, width-least, width-rises, front-quotient, front-push, last-push, value-digits, value-last, value-other, value_after-append}
use Rattle.lf_number.specs.Sides.{comparison-most, whole_side-most}
use Rattle.lf_number.specs.Free.{free-least, free-whole_low, free-whole_high, counted_at, counted-most}
use Rattle.lf_number.specs.Range.{range-pos, pos-range}
use Rattle.lf_number.specs.Mixed.{Reading, begun, lone_zero, whole, counted, point, read_digit, IsFree, digit-goes, free-below, mixed-most, under_test, done-at}
use Rattle.lf_number.specs.ReadingLaws.{IsReading, AcceptsNumbers, reading_accepts, num_laws}
use Rattle.lf_number.specs.NumberLaws.{place-apart, below-magnitude, below-zero, value-distinct, by_true, by_false, not_zero, is_zero, guarded_true, none_some, zero-letter, zero-text}
use Rattle.lf_number.specs.Numbers.{digit_letter, digit_of, decimal, width, magnitude, last_digits, thousandths_text, whole_digits, thousandths_size, IsBetween, HoldsNumber, num_text}
use Rattle.lf_number.specs.Machines.{value_after, front, comparison, in_range, whole_side, counted_place, mixed_digit, counted_done, thousandths_point, thousandths_next, thousandths_ends, thousandths_machine}
use Rattle.lf_core.specs.Choices.{below, unwrap}

thousand : (m : ℕ) → front 10 m 3 ≡ m / 1000
thousand m = omega arith

same-place : (x y p : ℕ) → counted_place 3 (comparison p (x / 1000)) (comparison p (y / 1000)) ≡ counted_at 10 x y 3 p
same-place x y p =
    ap (λ (m : ℕ). counted_place 3 (comparison p m) (comparison p (y / 1000))) (sym (thousand x))
    ∙ ap (λ (m : ℕ). counted_place 3 (comparison p (front 10 x 3)) (comparison p m)) (sym (thousand y))

-- reading back what was written
pub thousandths-value : (n : ℕ) → value_after 10 0 (thousandths_text (pos n)) ≡ n
thousandths-value n =
    value_after-append 10 ten (decimal (n / 1000)) (46 ∷ last_digits 10 3 n) 0
    ∙ ap (λ (a : ℕ). value_after 10 a (46 ∷ last_digits 10 3 n)) (value-digits 10 ten (n / 1000))
    ∙ value-other 10 ten 46 (last_digits 10 3 n) (n / 1000) point-no_digit
    ∙ ap (λ (a : ℕ). value_after 10 a (last_digits 10 3 n)) (sym (thousand n))
    ∙ value-last 10 ten 3 n

module _ (lo hi : ℤ) where
  abbrev at_point : Reading → ℕ
  at_point s = point 10 ten (whole_digits hi) (magnitude lo / 1000) (magnitude hi / 1000) (magnitude lo) (magnitude hi) 3 s

  abbrev digit_read : Reading → ℕ → Option Reading
  digit_read s digit = read_digit 10 ten (whole_digits hi) (magnitude lo / 1000) (magnitude hi / 1000) (magnitude lo) (magnitude hi) 3 lone_zero s digit

  abbrev point_read : Reading → Option Reading
  point_read begun = None
  point_read lone_zero = Some (counted 0 0)
  point_read (whole p) = Some (counted 0 p)
  point_read (counted done q) = None

  abbrev read : Reading → ℕ → Option Reading
  read s letter = cond (ltb (digit_of letter) 10) (digit_read s (digit_of letter)) (cond (letter == 46) (point_read s) None)

  abbrev is_read : Reading → Bool
  is_read begun = false
  is_read lone_zero = false
  is_read (whole p) = false
  is_read (counted done q) = cond (3 - done == 0) (in_range lo hi false (comparison q (front 10 (magnitude lo) (3 - done))) (comparison q (front 10 (magnitude hi) (3 - done)))) false

  abbrev CanRead : Reading → Type 0
  CanRead begun = Unit {0}
  CanRead lone_zero = Unit {0}
  CanRead (whole p) = (0 < p) × (width 10 p ≤ whole_digits hi)
  CanRead (counted done q) = (done ≤ 3) × (width 10 (front 10 q done) ≤ whole_digits hi)

  abbrev shown : Reading → List ℕ
  shown begun = []
  shown lone_zero = 48 ∷ []
  shown (whole p) = decimal p
  shown (counted done q) = decimal (front 10 q done) ++ 46 ∷ last_digits 10 done q

  abbrev Step : Reading → ℕ → Reading → Type 0
  Step s c t = CanRead t × (shown t ≡ shown s ++ c ∷ [])

  one-digit : (n : ℕ) → n < 10 → width 10 n ≤ whole_digits hi
  one-digit n h = omega (arith, width-one 10 ten n h, width-least 10 ten (magnitude hi / 1000))

  first-step : (c : ℕ) (t : Reading) → digit_of c < 10 → digit_read begun (digit_of c) ≡ Some t → Step begun c t
  first-step c t d e =
      elim (cases_Bool (digit_of c == 0)) [
        | inl z ↦
            subst (λ (x : Reading). Step begun c x) (unwrap lone_zero t (rw z at e))
            (tt, ap (λ (x : ℕ). x ∷ []) (zero-letter c z))
        | inr z ↦
            let n : 0 < digit_of c = grind (arith, nat_tests) in
            subst (λ (x : Reading). Step begun c x) (unwrap (whole (digit_of c)) t (rw z at e))
            ((n, one-digit (digit_of c) d), digits-one 10 ten (digit_of c) d ∙ ap (λ (x : ℕ). x ∷ []) (letter-is 10 ten c d))
      ]

  whole-step : (p c : ℕ) (t : Reading) → CanRead (whole p) → digit_of c < 10 → digit_read (whole p) (digit_of c) ≡ Some t → Step (whole p) c t
  whole-step p c t h d e =
      let g = cond_some (ltb (width 10 p) (whole_digits hi)) (whole (p * 10 + digit_of c)) t e in
      let l = ltb-true (width 10 p) (whole_digits hi) g.0 in
      subst (λ (x : Reading). Step (whole p) c x) g.1 (
        (omega (arith, h.0), omega (arith, l, width-push 10 ten p (digit_of c) h.0 d)),
        digits-push 10 ten p (digit_of c) h.0 d ∙ ap (λ (x : ℕ). decimal p ++ x ∷ []) (letter-is 10 ten c d),
      )

  counted-step : (done q c : ℕ) (t : Reading) → CanRead (counted done q) → digit_of c < 10 → digit_read (counted done q) (digit_of c) ≡ Some t → Step (counted done q) c t
  counted-step done q c t h d e =
      let g = cond_some (ltb done 3) (counted (suc done) (q * 10 + digit_of c)) t e in
      let l = ltb-true done 3 g.0 in
      let f : front 10 (q * 10 + digit_of c) (suc done) ≡ front 10 q done = front-push 10 q (digit_of c) done d in
      subst (λ (x : Reading). Step (counted done q) c x) g.1 (
        (omega (arith, l), subst (λ (x : ℕ). width 10 x ≤ whole_digits hi) (sym f) h.1),
        ap (λ (x : ℕ). decimal x ++ 46 ∷ last_digits 10 (suc done) (q * 10 + digit_of c)) f
            ∙ ap (λ (ds : List ℕ). decimal (front 10 q done) ++ 46 ∷ ds) (last-push 10 ten done q (digit_of c) d ∙ ap (λ (x : ℕ). last_digits 10 done q ++ x ∷ []) (letter-is 10 ten c d))
            ∙ sym (append_assoc (decimal (front 10 q done)) (46 ∷ last_digits 10 done q) (c ∷ [])),
      )

  digit-step : (s : Reading) (c : ℕ) (t : Reading) → CanRead s → digit_of c < 10 → digit_read s (digit_of c) ≡ Some t → Step s c t
  digit-step begun c t h d e = first-step c t d e
  digit-step lone_zero c t h d e = cc
  digit-step (whole p) c t h d e = whole-step p c t h d e
  digit-step (counted done q) c t h d e = counted-step done q c t h d e

  point-step : (s : Reading) (c : ℕ) (t : Reading) → CanRead s → 46 ≡ c → point_read s ≡ Some t → Step s c t
  point-step begun c t h y e = cc
  point-step lone_zero c t h y e =
      subst (λ (x : Reading). Step lone_zero c x) (unwrap (counted 0 0) t e)
      ((omega arith, one-digit 0 (omega arith)), ap (λ (ds : List ℕ). ds ++ 46 ∷ []) zero-text ∙ ap (λ (x : ℕ). 48 ∷ x ∷ []) y)
  point-step (whole p) c t h y e =
      subst (λ (x : Reading). Step (whole p) c x) (unwrap (counted 0 p) t e)
      ((omega arith, h.1), ap (λ (x : ℕ). decimal p ++ x ∷ []) y)
  point-step (counted done q) c t h y e = cc

  step : (s : Reading) (c : ℕ) (t : Reading) → CanRead s → read s c ≡ Some t → Step s c t
  step s c t h e =
      elim (cases_Bool (ltb (digit_of c) 10)) [
        | inl d ↦ digit-step s c t h (ltb-true (digit_of c) 10 d) (by_true (ltb (digit_of c) 10) (digit_read s (digit_of c)) (cond (c == 46) (point_read s) None) t d e)
        | inr d ↦
            let g = guarded (c == 46) (point_read s) t (by_false (ltb (digit_of c) 10) (digit_read s (digit_of c)) (cond (c == 46) (point_read s) None) t d e) in
            let y : 46 ≡ c = grind (arith, nat_tests, g.0) in
            point-step s c t h y g.1
      ]

  read-digit : (s : Reading) (n : ℕ) → n < 10 → read s (digit_letter n) ≡ digit_read s n
  read-digit s n h = digit-taken 10 ten n (digit_read s) (cond (digit_letter n == 46) (point_read s) None) h

  read-point : (s : Reading) → read s 46 ≡ point_read s
  read-point s = ap (λ (m : ℕ). cond (ltb m 10) (digit_read s m) (point_read s)) point-no_digit

  abbrev Before : Reading → Type 0
  Before t = (t ≡ begun) ⊎ ((s : Reading) × (c : ℕ) × CanRead s × (read s c ≡ Some t))

  before-whole : (p : ℕ) → CanRead (whole p) → Before (whole p)
  before-whole p h =
      elim (below p 10) [
        | inl t ↦
            let z : (p == 0) ≡ false = not_zero p h.0 in
            let e : digit_read begun p ≡ Some (whole p) = rw z in
            inr (begun, digit_letter p, tt, read-digit begun p t.1 ∙ e)
        | inr t ↦
            let w = width-more 10 ten p t.1 in
            let l : ltb (width 10 (p / 10)) (whole_digits hi) ≡ true = lt-ltb (width 10 (p / 10)) (whole_digits hi) (omega (arith, h.1)) in
            let e : digit_read (whole (p / 10)) (p % 10) ≡ Some (whole p) = rw l (ap (λ (m : ℕ). Some (whole m)) (div-add-mod' p 10)) in
            inr (whole (p / 10), digit_letter (p % 10), (omega (arith, t.1), omega (arith, h.1)), read-digit (whole (p / 10)) (p % 10) (omega arith) ∙ e)
      ]

  before-point : (q : ℕ) → CanRead (counted 0 q) → Before (counted 0 q)
  before-point zero h = inr (lone_zero, 46, tt, read-point lone_zero)
  before-point (suc q) h = inr (whole (suc q), 46, (omega arith, h.1), read-point (whole (suc q)))

  before-counted : (done q : ℕ) → CanRead (counted (suc done) q) → Before (counted (suc done) q)
  before-counted done q h =
      let l : ltb done 3 ≡ true = lt-ltb done 3 (omega (arith, h.0)) in
      let e : digit_read (counted done (q / 10)) (q % 10) ≡ Some (counted (suc done) q) = rw l (ap (λ (m : ℕ). Some (counted (suc done) m)) (div-add-mod' q 10)) in
      inr (counted done (q / 10), digit_letter (q % 10), (omega (arith, h.0), subst (λ (x : ℕ). width 10 x ≤ whole_digits hi) (sym (front-quotient 10 q done)) h.1), read-digit (counted done (q / 10)) (q % 10) (omega arith) ∙ e)

  before : (t : Reading) → CanRead t → Before t
  before begun h = inl refl
  before lone_zero h = inr (begun, 48, tt, ap (λ (m : ℕ). cond (ltb m 10) (digit_read begun m) None) zero-is_digit)
  before (whole p) h = before-whole p h
  before (counted zero q) h = before-point q h
  before (counted (suc done) q) h = before-counted done q h

  thousandths_reading : IsReading read begun shown CanRead
  thousandths_reading = record {
    begins = tt;
    empty = refl;
    keeps = λ s c t h e. (step s c t h e).0;
    more = λ s t c h e. (step s c t h e).1;
    before = before;
  }

  -- the numbers of its states

  free : (s : Reading) → CanRead s → IsFree 10 ten (whole_digits hi) (magnitude lo / 1000) (magnitude hi / 1000) (magnitude lo) (magnitude hi) 3 s
  free begun h = tt
  free lone_zero h = tt
  free (whole p) h = h
  free (counted done q) h = tt

  thousandths-counted : (x : ℕ) → thousandths_point lo hi ((9 * whole_digits hi + 2) + x) ≡ None
  thousandths-counted x =
      let z = place-apart ((9 * whole_digits hi + 2) + x) (omega arith) in
      let t : ltb ((9 * whole_digits hi + 2) + x) (9 * whole_digits hi + 2) ≡ false = grind (arith, nat_tests) in
      rw (z.0, z.1, t)

  point-whole : (p : ℕ) → CanRead (whole p) → thousandths_point lo hi (at_point (whole p)) ≡ Some (at_point (counted 0 p))
  point-whole p h =
      let z = place-apart (at_point (whole p)) (free-least 10 ten (magnitude lo / 1000) (magnitude hi / 1000) p) in
      let t = free-below 10 ten (whole_digits hi) (magnitude lo / 1000) (magnitude hi / 1000) (magnitude lo) (magnitude hi) 3 p h.1 in
      rw (z.0, z.1, t, free-whole_low 10 ten (magnitude lo / 1000) (magnitude hi / 1000) p, free-whole_high 10 ten (magnitude lo / 1000) (magnitude hi / 1000) p)
      (ap (λ (x : ℕ). Some ((9 * whole_digits hi + 2) + x)) (same-place (magnitude lo) (magnitude hi) p))

  point-goes : (s : Reading) → CanRead s → thousandths_point lo hi (at_point s) ≡ map_option at_point (point_read s)
  point-goes begun h = refl
  point-goes lone_zero h = ap (λ (x : ℕ). Some ((9 * whole_digits hi + 2) + x)) (same-place (magnitude lo) (magnitude hi) 0)
  point-goes (whole p) h = point-whole p h
  point-goes (counted done q) h = thousandths-counted (counted_at 10 (magnitude lo) (magnitude hi) (3 - done) q)

  abbrev next_digit : Reading → ℕ → Option ℕ
  next_digit s digit = mixed_digit 10 (whole_digits hi) (magnitude lo / 1000) (magnitude hi / 1000) (magnitude lo) (magnitude hi) 1 (at_point s) digit

  ends-past : (x : ℕ) → thousandths_ends lo hi ((9 * whole_digits hi + 2) + x) ≡ counted_done lo hi x
  ends-past x =
      let t : ltb ((9 * whole_digits hi + 2) + x) (9 * whole_digits hi + 2) ≡ false = grind (arith, nat_tests) in
      let e : ((9 * whole_digits hi + 2) + x) - (9 * whole_digits hi + 2) ≡ x = omega arith in
      rw (t, e)

  goes : (s : Reading) (c : ℕ) → CanRead s → thousandths_next lo hi (at_point s) c ≡ map_option at_point (read s c)
  goes s c h =
      under_test at_point (ltb (digit_of c) 10) (next_digit s (digit_of c)) (cond (c == 46) (thousandths_point lo hi (at_point s)) None) (digit_read s (digit_of c)) (cond (c == 46) (point_read s) None)
      (λ d. digit-goes 10 ten (whole_digits hi) (magnitude lo / 1000) (magnitude hi / 1000) (magnitude lo) (magnitude hi) 3 lone_zero s (digit_of c) (free s h) (ltb-true (digit_of c) 10 d))
      (λ _. under_test at_point (c == 46) (thousandths_point lo hi (at_point s)) None (point_read s) None (λ _. point-goes s h) (λ _. refl))

  same : (s : Reading) → CanRead s → thousandths_ends lo hi (at_point s) ≡ is_read s
  same begun h = let t : ltb 0 (9 * whole_digits hi + 2) ≡ true = lt-ltb 0 (9 * whole_digits hi + 2) (omega arith) in rw t
  same lone_zero h = let t : ltb 1 (9 * whole_digits hi + 2) ≡ true = lt-ltb 1 (9 * whole_digits hi + 2) (omega arith) in rw t
  same (whole p) h =
      let t = free-below 10 ten (whole_digits hi) (magnitude lo / 1000) (magnitude hi / 1000) (magnitude lo) (magnitude hi) 3 p h.1 in
      rw t
  same (counted done q) h =
      ends-past (counted_at 10 (magnitude lo) (magnitude hi) (3 - done) q) ∙ done-at lo hi 10 (magnitude lo) (magnitude hi) (3 - done) q

  thousandths_image : IsImage read is_read (thousandths_next lo hi) (thousandths_ends lo hi) at_point CanRead
  thousandths_image = record { goes = goes; keeps = λ s c t h e. (step s c t h e).0; same = same }

  -- the numbers that its ends show

  text-three : (q : ℕ) → thousandths_text (pos q) ≡ shown (counted 3 q)
  text-three q = ap (λ (m : ℕ). decimal m ++ 46 ∷ last_digits 10 3 q) (sym (thousand q))

  abbrev Told : ℕ → ℕ → Type 0
  Told q done = (n : ℤ) × IsBetween lo hi n × (thousandths_text n ≡ shown (counted done q))

  tells-three : (q : ℕ) → in_range lo hi false (comparison q (magnitude lo)) (comparison q (magnitude hi)) ≡ true → Told q 3
  tells-three q e = (pos q, range-pos lo hi q e, text-three q)

  tells : (t : Reading) → CanRead t → is_read t ≡ true → (n : ℤ) × IsBetween lo hi n × (thousandths_text n ≡ shown t)
  tells begun h e = cc
  tells lone_zero h e = cc
  tells (whole p) h e = cc
  tells (counted done q) h e =
      let g = guarded_true (3 - done == 0) (in_range lo hi false (comparison q (front 10 (magnitude lo) (3 - done))) (comparison q (front 10 (magnitude hi) (3 - done)))) e in
      let z : 3 - done ≡ 0 = is_zero (3 - done) g.0 in
      let d : 3 ≡ done = omega (arith, h.0) in
      subst (λ (x : ℕ). in_range lo hi false (comparison q (front 10 (magnitude lo) (3 - x))) (comparison q (front 10 (magnitude hi) (3 - x))) ≡ true → Told q x) d (tells-three q) g.1

  fits : (k : ℕ) → pos k ≤ℤ hi → width 10 (front 10 k 3) ≤ whole_digits hi
  fits k m =
      let b = below-magnitude hi k m in
      let q : k / 1000 ≤ magnitude hi / 1000 = omega arith in
      subst (λ (x : ℕ). width 10 x ≤ whole_digits hi) (sym (thousand k)) (width-rises 10 ten (magnitude hi / 1000) (k / 1000) q)

  module _ (low : pos 0 ≤ℤ lo) where
    told : (n : ℤ) → IsBetween lo hi n → (t : Reading) × CanRead t × (is_read t ≡ true) × (shown t ≡ thousandths_text n)
    told (pos k) h = (counted 3 k, (omega arith, fits k h.1), pos-range lo hi k h.0 h.1, sym (text-three k))
    told (negsuc k) h = absurd (below-zero lo k low h.0)

    thousandths_accepts : AcceptsNumbers (IsBetween lo hi) thousandths_text (thousandths_machine lo hi)
    thousandths_accepts =
        reading_accepts read is_read begun shown CanRead thousandths_reading (IsBetween lo hi) thousandths_text
        (record { tells = tells; told = told }) (thousandths_machine lo hi) at_point thousandths_image refl

    point-stays : (at after : ℕ) → thousandths_point lo hi at ≡ Some after → after < thousandths_size hi
    point-stays at after e =
        elim (cases_Bool (at == 0)) [
          | inl z ↦ absurd (none_some after (rw z at e))
          | inr z ↦
              elim (cases_Bool (at == 1)) [
                | inl o ↦
                    let m = counted-most 3 (comparison 0 (magnitude lo / 1000)) (comparison 0 (magnitude hi / 1000)) (comparison-most 0 (magnitude lo / 1000)) (comparison-most 0 (magnitude hi / 1000)) 3 (omega arith) in
                    let f = unwrap ((9 * whole_digits hi + 2) + counted_place 3 (comparison 0 (magnitude lo / 1000)) (comparison 0 (magnitude hi / 1000))) after (rw (z, o) at e) in
                    rw (← f) (omega (arith, m))
                | inr o ↦
                    elim (below at (9 * whole_digits hi + 2)) [
                      | inl t ↦
                          let x = whole_side 10 (magnitude lo / 1000) ((at + 7) / 9) ((at + 7) % 9 / 3) in
                          let y = whole_side 10 (magnitude hi / 1000) ((at + 7) / 9) ((at + 7) % 3) in
                          let m = counted-most 3 x y (whole_side-most 10 (magnitude lo / 1000) ((at + 7) / 9) ((at + 7) % 9 / 3) (omega arith)) (whole_side-most 10 (magnitude hi / 1000) ((at + 7) / 9) ((at + 7) % 3) (omega arith)) 3 (omega arith) in
                          let f = unwrap ((9 * whole_digits hi + 2) + counted_place 3 x y) after (rw (z, o, t.0) at e) in
                          rw (← f) (omega (arith, m))
                      | inr t ↦ absurd (none_some after (rw (z, o, t.0) at e))
                    ]
              ]
        ]

    thousandths-stays : (at letter after : ℕ) → at < thousandths_size hi → thousandths_next lo hi at letter ≡ Some after → (letter < 256) × (after < thousandths_size hi)
    thousandths-stays at letter after h e =
        elim (cases_Bool (ltb (digit_of letter) 10)) [
          | inl d ↦
              let m = mixed-most 10 ten (whole_digits hi) (magnitude lo / 1000) (magnitude hi / 1000) (magnitude lo) (magnitude hi) 3 1 at (digit_of letter) after 3 (width-least 10 ten (magnitude hi / 1000)) (omega arith) (omega (arith, h)) (rw d at e) in
              (digit-byte letter (omega (arith, ltb-true (digit_of letter) 10 d)), omega (arith, m))
          | inr d ↦
              let g = guarded (letter == 46) (thousandths_point lo hi at) after (rw d at e) in
              let l : letter < 256 = grind (arith, nat_tests, g.0) in
              (l, point-stays at after g.1)
        ]

    pub thousandths_laws : IsDomain (HoldsNumber lo hi) (num_text thousandths_text) (thousandths_machine lo hi) (thousandths_size hi)
    thousandths_laws =
        num_laws (IsBetween lo hi) thousandths_text (thousandths_machine lo hi) (thousandths_size hi)
        thousandths_accepts (value-distinct 10 thousandths_text thousandths-value lo hi low) (omega arith) thousandths-stays (omega arith)
