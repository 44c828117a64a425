-- Digits whose number is not known before they end, as points of a machine.
use Rattle.std.proofs.Common.{◌≡◌, ℕ, suc, ◌+◌, ◌-◌, ◌*◌, ◌/◌, ◌%◌, ◌<◌, ◌≤◌, None, Some, Bool, true, false, cond, ltb, ◌==◌, arith}
use Rattle.std.proofs.lemmas.Bool.Decides.{nat_tests}
use Rattle.std.proofs.lemmas.Bool.{ltb-true}
use Rattle.std.proofs.lemmas.Option.{cond_some}
use Rattle.lf_number.specs.Digits.{width-one, width-push, width-least}
use Rattle.lf_number.specs.Sides.{side-first, side-next, side-most, side-whole, past-digits, next_side-most, push_side-most, comparison-most, comparison-push}
use Rattle.lf_number.specs.Numbers.{IsRadix, width}
use Rattle.lf_number.specs.Machines.{front, comparison, side, push_side, next_side, whole_side, place, free_first, free_more, free_next, counted_place, counted_more, counted_next}

-- a place gives back its parts
module _ (k a b : ℕ) (one : 1 ≤ k) (a_is : a ≤ 2) (b_is : b ≤ 2) where
  pub place-count : (place k a b + 7) / 9 ≡ k
  place-count = omega arith

  pub place-low : (place k a b + 7) % 9 / 3 ≡ a
  place-low = omega arith

  pub place-high : (place k a b + 7) % 3 ≡ b
  place-high = omega arith

  pub place-least : 2 ≤ place k a b
  place-least = omega arith

  pub place-most : (d : ℕ) → k ≤ d → place k a b < 9 * d + 2
  place-most d h = omega arith

module _ (r : ℕ) (is : IsRadix r) (a b : ℕ) where
  -- the place after the digits of p
  abbrev pub free_place : ℕ → ℕ
  free_place p = place (width r p) (side r a (width r p) p) (side r b (width r p) p)

  pub free-least : (p : ℕ) → 2 ≤ free_place p
  free-least p = place-least (width r p) (side r a (width r p) p) (side r b (width r p) p) (width-least r is p) (side-most r a (width r p) p) (side-most r b (width r p) p)

  pub free-most : (p most : ℕ) → width r p ≤ most → free_place p < 9 * most + 2
  free-most p most h = place-most (width r p) (side r a (width r p) p) (side r b (width r p) p) (width-least r is p) (side-most r a (width r p) p) (side-most r b (width r p) p) most h

  pub free-count : (p : ℕ) → (free_place p + 7) / 9 ≡ width r p
  free-count p = place-count (width r p) (side r a (width r p) p) (side r b (width r p) p) (width-least r is p) (side-most r a (width r p) p) (side-most r b (width r p) p)

  pub free-low : (p : ℕ) → (free_place p + 7) % 9 / 3 ≡ side r a (width r p) p
  free-low p = place-low (width r p) (side r a (width r p) p) (side r b (width r p) p) (width-least r is p) (side-most r a (width r p) p) (side-most r b (width r p) p)

  pub free-high : (p : ℕ) → (free_place p + 7) % 3 ≡ side r b (width r p) p
  free-high p = place-high (width r p) (side r a (width r p) p) (side r b (width r p) p) (width-least r is p) (side-most r a (width r p) p) (side-most r b (width r p) p)

  pub free-first : (digit : ℕ) → digit < r → free_first r a b digit ≡ free_place digit
  free-first digit h = rw (width-one r is digit h, side-first r is a digit h, side-first r is b digit h)

  free-push : (p digit : ℕ) → 0 < p → digit < r → free_more r a b (width r p) (side r a (width r p) p) (side r b (width r p) p) digit ≡ free_place (p * r + digit)
  free-push p digit h g =
      rw (
        width-push r is p digit h g,
        side-next r is a (width r p) p digit g (past-digits r is a p digit h g),
        side-next r is b (width r p) p digit g (past-digits r is b p digit h g),
      )

  pub free-next : (p digit most : ℕ) → 0 < p → digit < r → free_next r most a b (free_place p) digit ≡ cond (ltb (width r p) most) (Some (free_place (p * r + digit))) None
  free-next p digit most h g = rw (free-count p, free-low p, free-high p, free-push p digit h g)

  pub free-whole_low : (p : ℕ) → whole_side r a ((free_place p + 7) / 9) ((free_place p + 7) % 9 / 3) ≡ comparison p a
  free-whole_low p = rw (free-count p, free-low p) (side-whole r is a p)

  pub free-whole_high : (p : ℕ) → whole_side r b ((free_place p + 7) / 9) ((free_place p + 7) % 3) ≡ comparison p b
  free-whole_high p = rw (free-count p, free-high p) (side-whole r is b p)

guarded_none : (c : Bool) (n after : ℕ) → cond c None (Some n) ≡ Some after → n ≡ after
guarded_none true n after e = cc
guarded_none false n after e = cc

module _ (r a b : ℕ) where
  pub free_first-most : (digit most : ℕ) → 1 ≤ most → free_first r a b digit < 9 * most + 2
  free_first-most digit most h =
      place-most 1 (next_side r a 0 1 digit) (next_side r b 0 1 digit) (omega arith) (next_side-most r a 0 1 digit (omega arith)) (next_side-most r b 0 1 digit (omega arith)) most h

  pub free_first-least : (digit : ℕ) → 2 ≤ free_first r a b digit
  free_first-least digit = omega arith

  pub free_next-least : (most at digit after : ℕ) → free_next r most a b at digit ≡ Some after → 2 ≤ after
  free_next-least most at digit after e =
      let f = cond_some (ltb ((at + 7) / 9) most) (free_more r a b ((at + 7) / 9) ((at + 7) % 9 / 3) ((at + 7) % 3) digit) after e in
      rw (← f.1) (omega arith)

  pub free_next-most : (most at digit after : ℕ) → free_next r most a b at digit ≡ Some after → after < 9 * most + 2
  free_next-most most at digit after e =
      let k = (at + 7) / 9 in
      let s = (at + 7) % 9 / 3 in
      let t = (at + 7) % 3 in
      let f = cond_some (ltb k most) (free_more r a b k s t digit) after e in
      let l : k + 1 ≤ most = omega (arith, ltb-true k most f.0) in
      let p = place-most (k + 1) (next_side r a k s digit) (next_side r b k t digit) (omega arith) (next_side-most r a k s digit (omega arith)) (next_side-most r b k t digit (omega arith)) most l in
      rw (← f.1) p

  -- Digits whose number is known: how the number so far stands to the first digits of the bounds.
  abbrev pub counted_at : ℕ → ℕ → ℕ
  counted_at rest q = counted_place rest (comparison q (front r a rest)) (comparison q (front r b rest))

-- a place gives back its parts
module _ (rest a b : ℕ) (a_is : a ≤ 2) (b_is : b ≤ 2) where
  pub counted-rest : counted_place rest a b / 9 ≡ rest
  counted-rest = omega arith

  pub counted-low : counted_place rest a b % 9 / 3 ≡ a
  counted-low = omega arith

  pub counted-high : counted_place rest a b % 3 ≡ b
  counted-high = omega arith

  pub counted-most : (top : ℕ) → rest ≤ top → counted_place rest a b < 9 * (top + 1)
  counted-most top h = omega arith

module _ (r a b base : ℕ) where
  pub counted-done : (q digit : ℕ) → counted_next r a b base (counted_at r a b 0 q) digit ≡ None
  counted-done q digit = rw (counted-rest 0 (comparison q a) (comparison q b) (comparison-most q a) (comparison-most q b))

  pub counted-next : (rest q digit : ℕ) → digit < r → counted_next r a b base (counted_at r a b (suc rest) q) digit ≡ Some (base + counted_at r a b rest (q * r + digit))
  counted-next rest q digit h =
      let s = comparison q (front r a (suc rest)) in
      let t = comparison q (front r b (suc rest)) in
      let sm = comparison-most q (front r a (suc rest)) in
      let tm = comparison-most q (front r b (suc rest)) in
      let e : suc rest - 1 ≡ rest = omega arith in
      let z : (suc rest == 0) ≡ false = grind (arith, nat_tests) in
      rw (counted-rest (suc rest) s t sm tm, counted-low (suc rest) s t sm tm, counted-high (suc rest) s t sm tm, z, e, comparison-push r q digit (front r a rest) h, comparison-push r q digit (front r b rest) h)

  pub counted_next-most : (at digit after top : ℕ) → at < 9 * (top + 1) → counted_next r a b base at digit ≡ Some after → after < base + 9 * (top + 1)
  counted_next-most at digit after top h e =
      let f = guarded_none (at / 9 == 0) (base + counted_more r a b (at / 9 - 1) (at % 9 / 3) (at % 3) digit) after e in
      let l = push_side-most (at % 9 / 3) digit (front r a (at / 9 - 1) % r) (omega arith) in
      let m = push_side-most (at % 3) digit (front r b (at / 9 - 1) % r) (omega arith) in
      let c = counted-most (at / 9 - 1) (push_side (at % 9 / 3) digit (front r a (at / 9 - 1) % r)) (push_side (at % 3) digit (front r b (at / 9 - 1) % r)) l m top (omega arith) in
      rw (← f) (omega (arith, c))
