-- A slot without quotes by numbers: its points, and the moves from each.
use Rattle.std.proofs.Common.{◌≡◌, ℕ, ◌+◌, ◌*◌, ◌/◌, ◌%◌, ◌<◌, ◌⊎◌, inl, inr, List, [], ◌∷◌, ◌++◌, length, get_or, map, Option, None, Some, Bool, true, false, cond, not, ltb, ◌==◌, ◌&&◌, ◌||◌, refl, sym, ap, ◌∙◌, arith, Contains}
use Rattle.std.proofs.lemmas.Bool.Decides.{leb_tells}
use Rattle.std.proofs.lemmas.List.Elements.{Contains-append_cases, Contains-append_left, Contains-append_right}
use Rattle.std.proofs.lemmas.Bool.{cases_Bool, eqb-true, eq-eqb, ne_eqb, lt-ltb, le-ltb, and_parts, and_from}
use Rattle.lf_core.specs.declared.marked.Move.{Move}
use Rattle.lf_machine.specs.Paths.{Step}
use Rattle.lf_machine.specs.Letters.{At, CanStep}
use Rattle.lf_machine.specs.Lists.{none-there, one-there, there-one, map-from, map-into, Rises, rises-append, rises-more, cond-there, there-cond, rises-guard, rises-either}
use Rattle.lf_machine.specs.Numbered.{numbered}
use Rattle.lf_machine.specs.Unquoted.{Within, inside, missing, lone, opened, closed, left, wrap, dashed, SlotEnter, SlotCan, SlotDone, SlotEmpty, wrap_first}
use Rattle.lf_machine.specs.SlotMoves.{IsLaid, at_moves, at_number, ValidAt, at_state, at-rises, at-range, at-back, at-first, at-goes, at-gone, at_root, root-done, done-root}
use Rattle.lf_machine.specs.SlotMachine.{SlotMachine}

-- a first letter that is a dash may have to go on
abbrev pub redirect : Bool → ℕ → Move → Move
redirect apart_dash to m = record { mark = m.mark; to = cond (apart_dash && m.mark == 48) to m.to }

redirect-rises : (b : Bool) (to low high : ℕ) (ms : List Move) → Rises low high ms → Rises low high (map (redirect b to) ms)
redirect-rises b to low high [] h = h
redirect-rises b to low high (m ∷ ms) h = (h.0, redirect-rises b to (m.mark + 1) high ms h.1)

module _ (sm : SlotMachine) where
  -- the number of points among letters; after them come the dash of absence and the dash that must go on
  abbrev pub top : ℕ
  top = sm.size * length sm.table

  -- the number of a state
  abbrev pub plain_number : Within → ℕ
  plain_number (inside s) = at_number sm s
  plain_number missing = top
  plain_number lone = top + 1
  plain_number opened = 0
  plain_number closed = 0
  plain_number (left rest) = 0

  -- the states that have a number
  abbrev pub PlainValid : Within → Type 0
  PlainValid (inside s) = ValidAt sm s
  PlainValid missing = Unit {0}
  PlainValid lone = Unit {0}
  PlainValid opened = ⊥
  PlainValid closed = ⊥
  PlainValid (left rest) = ⊥

  -- the state of a number
  abbrev pub plain_state : ℕ → Within
  plain_state n = cond (ltb n top) (inside (at_state sm n)) (cond (n == top) missing lone)

  -- the moves into the slot: over the dash of absence, and by a letter's first byte
  abbrev pub plain_enter : ℕ → List Move
  plain_enter byte = cond (sm.dash && byte == 45) (record { mark = 1; to = top } ∷ []) [] ++ map (redirect sm.apart_dash (top + 1)) (at_moves sm sm.first [] byte)

  -- the moves after a dash that must go on
  abbrev pub lone_moves : Option ℕ → ℕ → List Move
  lone_moves None byte = []
  lone_moves (Some q) byte = at_moves sm q [] byte

  -- the moves from a point
  abbrev pub plain_moves : ℕ → ℕ → List Move
  plain_moves n byte =
      cond (ltb n top)
      (at_moves sm (n / length sm.table) (get_or sm.table (n % length sm.table) []) byte)
      (cond (n == top) [] (lone_moves (sm.next sm.first 45) byte))

  -- whether the slot may end at a point
  abbrev pub plain_done : ℕ → Bool
  plain_done n = cond (ltb n top) (at_root sm (at_state sm n)) (n == top)

  -- whether the slot may print nothing
  abbrev pub plain_empty : Bool
  plain_empty = sm.blank || (not sm.apart_blank && sm.ends sm.first)

  pub plain-enter_rises : (byte : ℕ) → Rises 0 259 (plain_enter byte)
  plain-enter_rises byte =
      let r = redirect-rises sm.apart_dash (top + 1) 2 259 (at_moves sm sm.first [] byte) (at-rises sm sm.first [] byte) in
      let d : Rises 0 2 (record { mark = 1; to = top } ∷ []) = (omega arith, omega arith) in
      rises-append 0 2 259 (cond (sm.dash && byte == 45) (record { mark = 1; to = top } ∷ []) []) (map (redirect sm.apart_dash (top + 1)) (at_moves sm sm.first [] byte)) (rises-guard (sm.dash && byte == 45) 0 2 (record { mark = 1; to = top } ∷ []) (omega arith) d) r

  lone-rises : (o : Option ℕ) (byte : ℕ) → Rises 0 259 (lone_moves o byte)
  lone-rises None byte = omega arith
  lone-rises (Some q) byte = rises-more 0 2 259 (at_moves sm q [] byte) (omega arith) (at-rises sm q [] byte)

  pub plain-moves_rise : (n byte : ℕ) → Rises 0 259 (plain_moves n byte)
  plain-moves_rise n byte =
      let q = n / length sm.table in
      let read = get_or sm.table (n % length sm.table) [] in
      rises-either (ltb n top) 0 259 (at_moves sm q read byte) (cond (n == top) [] (lone_moves (sm.next sm.first 45) byte))
      (rises-more 0 2 259 (at_moves sm q read byte) (omega arith) (at-rises sm q read byte))
      (rises-either (n == top) 0 259 [] (lone_moves (sm.next sm.first 45) byte) (omega arith) (lone-rises (sm.next sm.first 45) byte))

  module _ (is : IsLaid sm) where
    pub plain-range : (s : Within) → PlainValid s → plain_number s < top + 2
    plain-range (inside s) v = let r = at-range sm is s v in omega (arith, r)
    plain-range missing v = omega arith
    plain-range lone v = omega arith
    plain-range opened v = absurd v
    plain-range closed v = absurd v
    plain-range (left rest) v = absurd v

    pub plain-back : (s : Within) → PlainValid s → plain_state (plain_number s) ≡ s
    plain-back (inside s) v =
        let t = lt-ltb (at_number sm s) top (at-range sm is s v) in
        rw t (ap inside (at-back sm is s v))
    plain-back missing v =
        let t = le-ltb top top (omega arith) in
        let u = eq-eqb top top refl in
        rw (t, u) refl
    plain-back lone v =
        let t = le-ltb (top + 1) top (omega arith) in
        let u = ne_eqb (top + 1) top (λ e. omega arith) in
        rw (t, u) refl
    plain-back opened v = absurd v
    plain-back closed v = absurd v
    plain-back (left rest) v = absurd v

    either-number : (b : Bool) (s : At) → cond b (top + 1) (at_number sm s) ≡ plain_number (cond b lone (inside s))
    either-number true s = refl
    either-number false s = refl

    either-valid : (b : Bool) (s : At) → ValidAt sm s → PlainValid (cond b lone (inside s))
    either-valid true s v = tt
    either-valid false s v = v

    first-number : (k : Step At) → redirect sm.apart_dash (top + 1) (numbered (at_number sm) k) ≡ numbered plain_number (wrap_first sm k)
    first-number k = ap (λ (n : ℕ). let m : Move = record { mark = k.mark; to = n } in m) (either-number (sm.apart_dash && k.mark == 48) k.to)

    pub plain-enters : (byte : ℕ) (m : Move) → Contains (plain_enter byte) m → (a : Step Within) × SlotEnter sm byte a × PlainValid a.to × (m ≡ numbered plain_number a)
    plain-enters byte m h =
        elim (Contains-append_cases (cond (sm.dash && byte == 45) (record { mark = 1; to = top } ∷ []) []) (map (redirect sm.apart_dash (top + 1)) (at_moves sm sm.first [] byte)) m h) [
          | inl i ↦
              let c = cond-there (sm.dash && byte == 45) (record { mark = 1; to = top } ∷ []) m i in
              let d = and_parts sm.dash (byte == 45) c.0 in
              (dashed, inl (d.0, eqb-true byte 45 d.1, refl), tt, one-there (record { mark = 1; to = top }) m c.1)
          | inr i ↦
              let f = map-from (redirect sm.apart_dash (top + 1)) (at_moves sm sm.first [] byte) m i in
              let g = at-goes sm is sm.first [] byte f.0 is.begins f.1 in
              (wrap_first sm g.0, inr (g.0, g.1, refl), either-valid (sm.apart_dash && g.0.mark == 48) g.0.to g.2, f.2 ∙ ap (redirect sm.apart_dash (top + 1)) g.3 ∙ first-number g.0)
        ]

    pub plain-entered : (byte : ℕ) (a : Step Within) → SlotEnter sm byte a → PlainValid a.to × Contains (plain_enter byte) (numbered plain_number a)
    plain-entered byte a h =
        elim h [
          | inl i ↦
              let mv : Move = record { mark = 1; to = top } in
              let e : numbered plain_number a ≡ mv = ap (numbered plain_number) i.2 in
              let v : PlainValid a.to = rw (i.2) tt in
              let c : Contains (cond (sm.dash && byte == 45) (mv ∷ []) []) mv = there-cond (sm.dash && byte == 45) (mv ∷ []) mv (and_from sm.dash (byte == 45) i.0 (eq-eqb byte 45 i.1)) (there-one mv) in
              (v, rw e (Contains-append_left (cond (sm.dash && byte == 45) (mv ∷ []) []) (map (redirect sm.apart_dash (top + 1)) (at_moves sm sm.first [] byte)) mv c))
          | inr i ↦
              let g = at-gone sm is sm.first [] byte i.0 is.begins i.1 in
              let e : redirect sm.apart_dash (top + 1) (numbered (at_number sm) i.0) ≡ numbered plain_number a = first-number i.0 ∙ ap (numbered plain_number) (sym i.2) in
              let c = map-into (redirect sm.apart_dash (top + 1)) (at_moves sm sm.first [] byte) (numbered (at_number sm) i.0) g.1 in
              let v : PlainValid a.to = rw (i.2) (either-valid (sm.apart_dash && i.0.mark == 48) i.0.to g.0) in
              (v, Contains-append_right (cond (sm.dash && byte == 45) (record { mark = 1; to = top } ∷ []) []) (map (redirect sm.apart_dash (top + 1)) (at_moves sm sm.first [] byte)) (numbered plain_number a) (rw e at c))
        ]

    lone-goes : (o : Option ℕ) (byte : ℕ) (m : Move) → sm.next sm.first 45 ≡ o → Contains (lone_moves o byte) m → (a : Step Within) × SlotCan sm lone byte a × PlainValid a.to × (m ≡ numbered plain_number a)
    lone-goes None byte m e h = absurd (none-there m h)
    lone-goes (Some q) byte m e h =
        let g = at-goes sm is q [] byte m (is.stays sm.first 45 q is.begins e) h in
        (wrap g.0, (q, g.0, e, g.1, refl), g.2, g.3)

    pub plain-goes : (n byte : ℕ) (m : Move) → n < top + 2 → Contains (plain_moves n byte) m → (a : Step Within) × SlotCan sm (plain_state n) byte a × PlainValid a.to × (m ≡ numbered plain_number a)
    plain-goes n byte m l h =
        elim (leb_tells top n) [
          | inl k ↦
              let t = le-ltb n top k.1 in
              elim (cases_Bool (n == top)) [
                | inl u ↦ let c : Contains [] m = rw (t, u) at h in absurd (none-there m c)
                | inr u ↦
                    let c : Contains (lone_moves (sm.next sm.first 45) byte) m = rw (t, u) at h in
                    rw (t, u) (lone-goes (sm.next sm.first 45) byte m refl c)
              ]
          | inr k ↦
              let t = lt-ltb n top k.1 in
              let c : Contains (at_moves sm (n / length sm.table) (get_or sm.table (n % length sm.table) []) byte) m = rw t at h in
              let g = at-goes sm is (n / length sm.table) (get_or sm.table (n % length sm.table) []) byte m (at-first sm is n k.1) c in
              rw t (wrap g.0, (g.0, g.1, refl), g.2, g.3)
        ]

    lone-gone : (o : Option ℕ) (q byte : ℕ) (k : Step At) → o ≡ Some q → sm.next sm.first 45 ≡ Some q → CanStep sm (record { point = q; begun = [] }) byte k → ValidAt sm k.to × Contains (lone_moves o byte) (numbered (at_number sm) k)
    lone-gone None q byte k e f c = cc
    lone-gone (Some r) q byte k e f c =
        let z : r ≡ q = cc in
        let g = at-gone sm is q [] byte k (is.stays sm.first 45 q is.begins f) c in
        (g.0, rw z g.1)

    pub plain-gone : (n byte : ℕ) (a : Step Within) → n < top + 2 → SlotCan sm (plain_state n) byte a → PlainValid a.to × Contains (plain_moves n byte) (numbered plain_number a)
    plain-gone n byte a l h =
        elim (leb_tells top n) [
          | inl k ↦
              let t = le-ltb n top k.1 in
              elim (cases_Bool (n == top)) [
                | inl u ↦ let c : SlotCan sm missing byte a = rw (t, u) at h in absurd c
                | inr u ↦
                    let c : SlotCan sm lone byte a = rw (t, u) at h in
                    let g = lone-gone (sm.next sm.first 45) c.0 byte c.1 c.2 c.2 c.3 in
                    let v : PlainValid a.to = rw (c.4) g.0 in
                    let e : numbered plain_number a ≡ numbered (at_number sm) c.1 = ap (numbered plain_number) c.4 in
                    (v, rw (t, u, e) g.1)
              ]
          | inr k ↦
              let t = lt-ltb n top k.1 in
              let c : SlotCan sm (inside (at_state sm n)) byte a = rw t at h in
              let g = at-gone sm is (n / length sm.table) (get_or sm.table (n % length sm.table) []) byte c.0 (at-first sm is n k.1) c.1 in
              let v : PlainValid a.to = rw (c.2) g.0 in
              let e : numbered plain_number a ≡ numbered (at_number sm) c.0 = ap (numbered plain_number) c.2 in
              (v, rw (t, e) g.1)
        ]

    pub plain-ends : (n : ℕ) → n < top + 2 → plain_done n ≡ true → SlotDone sm (plain_state n)
    plain-ends n l h =
        elim (leb_tells top n) [
          | inl k ↦
              let t = le-ltb n top k.1 in
              let u : (n == top) ≡ true = rw t at h in
              rw (t, u) tt
          | inr k ↦
              let t = lt-ltb n top k.1 in
              let u : at_root sm (at_state sm n) ≡ true = rw t at h in
              rw t (root-done sm is (at_state sm n) u)
        ]

    pub plain-ended : (n : ℕ) → n < top + 2 → SlotDone sm (plain_state n) → plain_done n ≡ true
    plain-ended n l h =
        elim (leb_tells top n) [
          | inl k ↦
              let t = le-ltb n top k.1 in
              elim (cases_Bool (n == top)) [
                | inl u ↦ rw (t, u) refl
                | inr u ↦ let c : SlotDone sm lone = rw (t, u) at h in absurd c
              ]
          | inr k ↦
              let t = lt-ltb n top k.1 in
              let c : SlotDone sm (inside (at_state sm n)) = rw t at h in
              rw t (done-root sm is (at_state sm n) c)
        ]

  bare-from : (a b c : Bool) → a || (not b && c) ≡ true → (a ≡ true) ⊎ ((b ≡ false) × (c ≡ true))
  bare-from true b c h = inl refl
  bare-from false true c h = cc
  bare-from false false c h = inr (refl, h)

  from-bare : (a b c : Bool) → (a ≡ true) ⊎ ((b ≡ false) × (c ≡ true)) → a || (not b && c) ≡ true
  from-bare true b c h = refl
  from-bare false b c h = elim h [ inl k ↦ absurd cc | inr k ↦ rw (k.0, k.1) refl ]

  pub plain-bare : plain_empty ≡ true → SlotEmpty sm
  plain-bare h = bare-from sm.blank sm.apart_blank (sm.ends sm.first) h

  pub plain-bared : SlotEmpty sm → plain_empty ≡ true
  plain-bared h = from-bare sm.blank sm.apart_blank (sm.ends sm.first) h
