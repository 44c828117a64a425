-- A reading of digits, first free and then counted, and the numbers of its states.
use Rattle.std.proofs.Common.{◌≡◌, ℕ, suc, ◌+◌, ◌-◌, ◌*◌, ◌<◌, ◌≤◌, inl, inr, Option, None, Some, Bool, true, false, cond, ltb, ◌==◌, refl, ◌∙◌, arith}
use Rattle.std.specs.Prelude.{ℤ}
use Rattle.std.proofs.lemmas.Bool.Decides.{nat_tests}
use Rattle.std.proofs.lemmas.Bool.{cases_Bool, lt-ltb}
use Rattle.lf_core.specs.AcceptsLaws.{map_option}
use Rattle.lf_number.specs.Sides.{comparison-most}
use Rattle.lf_number.specs.Free.{free_place, free-first, free-next, free-least, free-most, counted_at, counted-rest, counted-low, counted-high, counted-next, counted-done, free_first-most, free_next-most, counted_next-most}
use Rattle.lf_number.specs.NumberLaws.{place-apart, none_some}
use Rattle.lf_number.specs.Numbers.{IsRadix, width}
use Rattle.lf_number.specs.Machines.{front, comparison, in_range, free_first, counted_next, mixed_digit, counted_done}
use Rattle.lf_core.specs.Choices.{below, unwrap}

-- what was read so far: nothing, a lone zero, the free digits of a number, and so many counted digits
pub data Reading : Type 0 where
  begun : Reading
  lone_zero : Reading
  whole : ℕ → Reading
  counted : ℕ → ℕ → Reading

module _ (r : ℕ) (is : IsRadix r) (most a b lo hi top : ℕ) where
  abbrev pub base : ℕ
  base = 9 * most + 2

  abbrev pub point : Reading → ℕ
  point begun = 0
  point lone_zero = 1
  point (whole p) = free_place r is a b p
  point (counted done q) = base + counted_at r lo hi (top - done) q

  abbrev pub read_digit : Reading → Reading → ℕ → Option Reading
  read_digit first begun digit = cond (digit == 0) (Some first) (Some (whole digit))
  read_digit first lone_zero digit = None
  read_digit first (whole p) digit = cond (ltb (width r p) most) (Some (whole (p * r + digit))) None
  read_digit first (counted done q) digit = cond (ltb done top) (Some (counted (suc done) (q * r + digit))) None

  abbrev pub IsFree : Reading → Type 0
  IsFree begun = Unit {0}
  IsFree lone_zero = Unit {0}
  IsFree (whole p) = (0 < p) × (width r p ≤ most)
  IsFree (counted done q) = Unit {0}

  pub free-below : (p : ℕ) → width r p ≤ most → ltb (free_place r is a b p) base ≡ true
  free-below p h = lt-ltb (free_place r is a b p) base (free-most r is a b p most h)

  not-below : (x : ℕ) → ltb (base + x) base ≡ false
  not-below x = grind (arith, nat_tests)

  past-base : (x : ℕ) → (base + x) - base ≡ x
  past-base x = omega arith

  begun-goes : (first : Reading) (digit : ℕ) → digit < r → mixed_digit r most a b lo hi (point first) 0 digit ≡ map_option point (read_digit first begun digit)
  begun-goes first digit h =
      elim (cases_Bool (digit == 0)) [
        | inl z ↦ rw z
        | inr z ↦ rw (z, free-first r is a b digit h)
      ]

  whole-goes : (first : Reading) (p digit : ℕ) → IsFree (whole p) → digit < r → mixed_digit r most a b lo hi (point first) (point (whole p)) digit ≡ map_option point (read_digit first (whole p) digit)
  whole-goes first p digit f h =
      let z = place-apart (free_place r is a b p) (free-least r is a b p) in
      rw (z.0, z.1, free-below p f.1, free-next r is a b p digit most f.0 h)
      (elim (cases_Bool (ltb (width r p) most)) [
        | inl t ↦ rw t
        | inr t ↦ rw t
      ])

  mixed-counted : (first at digit : ℕ) → mixed_digit r most a b lo hi first (base + at) digit ≡ counted_next r lo hi base at digit
  mixed-counted first at digit =
      let z = place-apart (base + at) (omega arith) in
      rw (z.0, z.1, not-below at, past-base at)

  counted-goes : (first : Reading) (done q digit : ℕ) → digit < r → mixed_digit r most a b lo hi (point first) (point (counted done q)) digit ≡ map_option point (read_digit first (counted done q) digit)
  counted-goes first done q digit h =
      mixed-counted (point first) (counted_at r lo hi (top - done) q) digit
      ∙ elim (below done top) [
        | inl t ↦
            let e : top - done ≡ suc (top - suc done) = omega (arith, t.1) in
            rw (t.0, e) (counted-next r lo hi base (top - suc done) q digit h)
        | inr t ↦
            let e : top - done ≡ 0 = omega (arith, t.1) in
            rw (t.0, e) (counted-done r lo hi base q digit)
      ]

  -- the digit after a point is the digit after what was read
  pub digit-goes : (first s : Reading) (digit : ℕ) → IsFree s → digit < r → mixed_digit r most a b lo hi (point first) (point s) digit ≡ map_option point (read_digit first s digit)
  digit-goes first begun digit f h = begun-goes first digit h
  digit-goes first lone_zero digit f h = refl
  digit-goes first (whole p) digit f h = whole-goes first p digit f h
  digit-goes first (counted done q) digit f h = counted-goes first done q digit h

  pub mixed-most : (first at digit after last : ℕ) → 1 ≤ most → first < base + 9 * (last + 1) → at < base + 9 * (last + 1) → mixed_digit r most a b lo hi first at digit ≡ Some after → after < base + 9 * (last + 1)
  mixed-most first at digit after last one f h e =
      elim (cases_Bool (at == 0)) [
        | inl z ↦
            elim (cases_Bool (digit == 0)) [
              | inl y ↦ rw (← (unwrap first after (rw (z, y) at e))) f
              | inr y ↦
                  let m = free_first-most r a b digit most one in
                  rw (← (unwrap (free_first r a b digit) after (rw (z, y) at e))) (omega (arith, m))
            ]
        | inr z ↦
            elim (cases_Bool (at == 1)) [
              | inl o ↦ absurd (none_some after (rw (z, o) at e))
              | inr o ↦
                  elim (below at base) [
                    | inl t ↦
                        let m = free_next-most r a b most at digit after (rw (z, o, t.0) at e) in
                        omega (arith, m)
                    | inr t ↦ counted_next-most r lo hi base (at - base) digit after last (omega (arith, t.1)) (rw (z, o, t.0) at e)
                  ]
            ]
      ]

-- a test that the machine and the reading both make
pub under_test : (point : Reading → ℕ) (b : Bool) (x y : Option ℕ) (u v : Option Reading) → (b ≡ true → x ≡ map_option point u) → (b ≡ false → y ≡ map_option point v) → cond b x y ≡ map_option point (cond b u v)
under_test point true x y u v h g = h refl
under_test point false x y u v h g = g refl

-- whether a number ends where its digits are counted
module _ (lo hi : ℤ) (r a b rest q : ℕ) where
  pub done-at : counted_done lo hi (counted_at r a b rest q) ≡ cond (rest == 0) (in_range lo hi false (comparison q (front r a rest)) (comparison q (front r b rest))) false
  done-at =
      let s = comparison-most q (front r a rest) in
      let t = comparison-most q (front r b rest) in
      rw (counted-rest rest (comparison q (front r a rest)) (comparison q (front r b rest)) s t, counted-low rest (comparison q (front r a rest)) (comparison q (front r b rest)) s t, counted-high rest (comparison q (front r a rest)) (comparison q (front r b rest)) s t)
