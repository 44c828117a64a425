-- A slot with quotes by numbers: its points, and the moves from each.
use Rattle.std.proofs.Common.{◌≡◌, ℕ, ◌+◌, ◌*◌, ◌/◌, ◌%◌, ◌<◌, ◌≤◌, ◌⊎◌, inl, inr, List, [], ◌∷◌, ◌++◌, length, get_or, Bool, true, false, cond, not, ltb, leb, ◌==◌, ◌&&◌, refl, sym, ap, subst, ◌∙◌, arith, Contains}
use Rattle.std.proofs.lemmas.Bool.Decides.{leb_tells}
use Rattle.std.proofs.lemmas.List.Elements.{Contains-append_cases, Contains-append_left, Contains-append_right}
use Rattle.std.proofs.lemmas.Bool.{eqb-true, eq-eqb, ne_eqb, lt-ltb, le-ltb, le-leb, lt-leb, and_parts, and_from}
use Rattle.lf_core.specs.declared.marked.Move.{Move}
use Rattle.lf_machine.specs.Paths.{Step}
use Rattle.lf_machine.specs.Letters.{At, CanStep, IsDone}
use Rattle.lf_machine.specs.Lists.{none-there, one-there, there-one, Rises, rises-append, cond-there, there-cond, rises-guard, rises-either}
use Rattle.lf_machine.specs.Numbered.{numbered}
use Rattle.lf_machine.specs.Unquoted.{Within, inside, missing, lone, opened, closed, left, wrap, dashed}
use Rattle.lf_machine.specs.Quoted.{opening, closing, QuotedEnter, QuotedCan, QuotedDone, BareQuotes}
use Rattle.lf_machine.specs.SlotMoves.{IsLaid, at_moves, at_number, ValidAt, at_state, at-rises, at-range, at-back, at-first, at-goes, at-gone, at_root, root-done, done-root}
use Rattle.lf_machine.specs.PlainNumbers.{plain_empty, plain-bare, plain-bared}
use Rattle.lf_machine.specs.SlotMachine.{SlotMachine}

module _ (sm : SlotMachine) where
  -- the number of points among letters; after them come the dash of absence, the opening and the closing quote
  abbrev top : ℕ
  top = sm.size * length sm.table

  -- the number of a state
  abbrev pub framed_number : Within → ℕ
  framed_number (inside s) = at_number sm s
  framed_number missing = top
  framed_number opened = top + 1
  framed_number closed = top + 2
  framed_number lone = 0
  framed_number (left rest) = 0

  -- the states that have a number
  abbrev pub FramedValid : Within → Type 0
  FramedValid (inside s) = ValidAt sm s
  FramedValid missing = Unit {0}
  FramedValid opened = Unit {0}
  FramedValid closed = Unit {0}
  FramedValid lone = ⊥
  FramedValid (left rest) = ⊥

  -- the state of a number
  abbrev pub framed_state : ℕ → Within
  framed_state n = cond (ltb n top) (inside (at_state sm n)) (cond (n == top) missing (cond (n == top + 1) opened closed))

  -- the moves into the slot: over the opening quote, or over the dash of absence
  abbrev pub framed_enter : ℕ → List Move
  framed_enter byte = cond (byte == 34) (record { mark = 0; to = top + 1 } ∷ []) [] ++ cond (sm.dash && byte == 45) (record { mark = 1; to = top } ∷ []) []

  -- the closing quote, where it may stand, and else a letter's byte
  abbrev pub closing_moves : Bool → ℕ → List ℕ → ℕ → List Move
  closing_moves may q read byte = cond (byte == 34 && may) (record { mark = 1; to = top + 2 } ∷ []) [] ++ at_moves sm q read byte

  -- nothing may stand between the quotes
  abbrev pub nothing_between : Bool
  nothing_between = plain_empty sm

  -- the moves from a point
  abbrev pub framed_moves : ℕ → ℕ → List Move
  framed_moves n byte =
      cond (ltb n top)
      (closing_moves (at_root sm (at_state sm n)) (n / length sm.table) (get_or sm.table (n % length sm.table) []) byte)
      (cond (n == top + 1) (closing_moves nothing_between sm.first [] byte) [])

  -- whether the slot may end at a point
  abbrev pub framed_done : ℕ → Bool
  framed_done n = leb top n && not (n == top + 1)

  pub framed-enter_rises : (byte : ℕ) → Rises 0 259 (framed_enter byte)
  framed-enter_rises byte =
      let d : Rises 0 1 (record { mark = 0; to = top + 1 } ∷ []) = (omega arith, omega arith) in
      let e : Rises 1 259 (record { mark = 1; to = top } ∷ []) = (omega arith, omega arith) in
      rises-append 0 1 259 (cond (byte == 34) (record { mark = 0; to = top + 1 } ∷ []) []) (cond (sm.dash && byte == 45) (record { mark = 1; to = top } ∷ []) [])
      (rises-guard (byte == 34) 0 1 (record { mark = 0; to = top + 1 } ∷ []) (omega arith) d) (rises-guard (sm.dash && byte == 45) 1 259 (record { mark = 1; to = top } ∷ []) (omega arith) e)

  closing-rises : (may : Bool) (q : ℕ) (read : List ℕ) (byte : ℕ) → Rises 0 259 (closing_moves may q read byte)
  closing-rises may q read byte =
      let d : Rises 0 2 (record { mark = 1; to = top + 2 } ∷ []) = (omega arith, omega arith) in
      rises-append 0 2 259 (cond (byte == 34 && may) (record { mark = 1; to = top + 2 } ∷ []) []) (at_moves sm q read byte)
      (rises-guard (byte == 34 && may) 0 2 (record { mark = 1; to = top + 2 } ∷ []) (omega arith) d) (at-rises sm q read byte)

  pub framed-moves_rise : (n byte : ℕ) → Rises 0 259 (framed_moves n byte)
  framed-moves_rise n byte =
      let may = at_root sm (at_state sm n) in
      rises-either (ltb n top) 0 259 (closing_moves may (n / length sm.table) (get_or sm.table (n % length sm.table) []) byte) (cond (n == top + 1) (closing_moves nothing_between sm.first [] byte) [])
      (closing-rises may (n / length sm.table) (get_or sm.table (n % length sm.table) []) byte)
      (rises-guard (n == top + 1) 0 259 (closing_moves nothing_between sm.first [] byte) (omega arith) (closing-rises nothing_between sm.first [] byte))

  module _ (is : IsLaid sm) where
    pub framed-range : (s : Within) → FramedValid s → framed_number s < top + 3
    framed-range (inside s) v = let r = at-range sm is s v in omega (arith, r)
    framed-range missing v = omega arith
    framed-range lone v = absurd v
    framed-range opened v = omega arith
    framed-range closed v = omega arith
    framed-range (left rest) v = absurd v

    pub framed-back : (s : Within) → FramedValid s → framed_state (framed_number s) ≡ s
    framed-back (inside s) v =
        let t = lt-ltb (at_number sm s) top (at-range sm is s v) in
        rw t (ap inside (at-back sm is s v))
    framed-back missing v =
        let t = le-ltb top top (omega arith) in
        let u = eq-eqb top top refl in
        rw (t, u) refl
    framed-back opened v =
        let t = le-ltb (top + 1) top (omega arith) in
        let u = ne_eqb (top + 1) top (λ e. omega arith) in
        let w = eq-eqb (top + 1) (top + 1) refl in
        rw (t, u, w) refl
    framed-back closed v =
        let t = le-ltb (top + 2) top (omega arith) in
        let u = ne_eqb (top + 2) top (λ e. omega arith) in
        let w = ne_eqb (top + 2) (top + 1) (λ e. omega arith) in
        rw (t, u, w) refl
    framed-back lone v = absurd v
    framed-back (left rest) v = absurd v

    pub framed-enters : (byte : ℕ) (m : Move) → Contains (framed_enter byte) m → (a : Step Within) × QuotedEnter sm byte a × FramedValid a.to × (m ≡ numbered framed_number a)
    framed-enters byte m h =
        elim (Contains-append_cases (cond (byte == 34) (record { mark = 0; to = top + 1 } ∷ []) []) (cond (sm.dash && byte == 45) (record { mark = 1; to = top } ∷ []) []) m h) [
          | inl i ↦
              let c = cond-there (byte == 34) (record { mark = 0; to = top + 1 } ∷ []) m i in
              (opening, inl (eqb-true byte 34 c.0, refl), tt, one-there (record { mark = 0; to = top + 1 }) m c.1)
          | inr i ↦
              let c = cond-there (sm.dash && byte == 45) (record { mark = 1; to = top } ∷ []) m i in
              let d = and_parts sm.dash (byte == 45) c.0 in
              (dashed, inr (d.0, eqb-true byte 45 d.1, refl), tt, one-there (record { mark = 1; to = top }) m c.1)
        ]

    pub framed-entered : (byte : ℕ) (a : Step Within) → QuotedEnter sm byte a → FramedValid a.to × Contains (framed_enter byte) (numbered framed_number a)
    framed-entered byte a h =
        elim h [
          | inl i ↦
              let mv : Move = record { mark = 0; to = top + 1 } in
              let e : numbered framed_number a ≡ mv = ap (numbered framed_number) i.1 in
              let v : FramedValid a.to = rw (i.1) tt in
              let c = there-cond (byte == 34) (mv ∷ []) mv (eq-eqb byte 34 i.0) (there-one mv) in
              (v, rw e (Contains-append_left (cond (byte == 34) (mv ∷ []) []) (cond (sm.dash && byte == 45) (record { mark = 1; to = top } ∷ []) []) mv c))
          | inr i ↦
              let mv : Move = record { mark = 1; to = top } in
              let e : numbered framed_number a ≡ mv = ap (numbered framed_number) i.2 in
              let v : FramedValid a.to = rw (i.2) tt in
              let c = there-cond (sm.dash && byte == 45) (mv ∷ []) mv (and_from sm.dash (byte == 45) i.0 (eq-eqb byte 45 i.1)) (there-one mv) in
              (v, rw e (Contains-append_right (cond (byte == 34) (record { mark = 0; to = top + 1 } ∷ []) []) (cond (sm.dash && byte == 45) (mv ∷ []) []) mv c))
        ]

    -- a step among letters or to the closing quote
    abbrev Closing : Type 0 → At → ℕ → Step Within → Type 0
    Closing may s byte a = ((k : Step At) × CanStep sm s byte k × (a ≡ wrap k)) ⊎ (may × (byte ≡ 34) × (a ≡ closing))

    closing-goes : (may : Type 0) (b : Bool) → (b ≡ true → may) → (q : ℕ) (read : List ℕ) (byte : ℕ) (m : Move) → q < sm.size → Contains (closing_moves b q read byte) m →
        (a : Step Within) × Closing may (record { point = q; begun = read }) byte a × FramedValid a.to × (m ≡ numbered framed_number a)
    closing-goes may b f q read byte m l h =
        elim (Contains-append_cases (cond (byte == 34 && b) (record { mark = 1; to = top + 2 } ∷ []) []) (at_moves sm q read byte) m h) [
          | inl i ↦
              let c = cond-there (byte == 34 && b) (record { mark = 1; to = top + 2 } ∷ []) m i in
              let d = and_parts (byte == 34) b c.0 in
              (closing, inr (f d.1, eqb-true byte 34 d.0, refl), tt, one-there (record { mark = 1; to = top + 2 }) m c.1)
          | inr i ↦
              let g = at-goes sm is q read byte m l i in
              (wrap g.0, inl (g.0, g.1, refl), g.2, g.3)
        ]

    closing-gone : (may : Type 0) (b : Bool) → (may → b ≡ true) → (q : ℕ) (read : List ℕ) (byte : ℕ) (a : Step Within) → q < sm.size → Closing may (record { point = q; begun = read }) byte a →
        FramedValid a.to × Contains (closing_moves b q read byte) (numbered framed_number a)
    closing-gone may b f q read byte a l h =
        elim h [
          | inl i ↦
              let g = at-gone sm is q read byte i.0 l i.1 in
              let v : FramedValid a.to = rw (i.2) g.0 in
              let e : numbered framed_number a ≡ numbered (at_number sm) i.0 = ap (numbered framed_number) i.2 in
              (v, Contains-append_right (cond (byte == 34 && b) (record { mark = 1; to = top + 2 } ∷ []) []) (at_moves sm q read byte) (numbered framed_number a) (rw e g.1))
          | inr i ↦
              let mv : Move = record { mark = 1; to = top + 2 } in
              let e : numbered framed_number a ≡ mv = ap (numbered framed_number) i.2 in
              let v : FramedValid a.to = rw (i.2) tt in
              let c = there-cond (byte == 34 && b) (mv ∷ []) mv (and_from (byte == 34) b (eq-eqb byte 34 i.1) (f i.0)) (there-one mv) in
              (v, rw e (Contains-append_left (cond (byte == 34 && b) (mv ∷ []) []) (at_moves sm q read byte) mv c))
        ]

    -- a point that is not among letters
    outer : (n : ℕ) → n < top + 3 → top ≤ n → (n ≡ top) ⊎ (n ≡ top + 1) ⊎ (n ≡ top + 2)
    outer n l h =
        elim (leb_tells (top + 1) n) [
          | inl k ↦
              elim (leb_tells (top + 2) n) [
                | inl j ↦ inr (inr (omega (arith, j.1)))
                | inr j ↦ inr (inl (omega (arith, k.1, j.1)))
              ]
          | inr k ↦ inl (omega (arith, k.1))
        ]

    at-missing : (n : ℕ) → n ≡ top → framed_state n ≡ missing
    at-missing n e = ap framed_state e ∙ framed-back missing tt

    at-opened : (n : ℕ) → n ≡ top + 1 → framed_state n ≡ opened
    at-opened n e = ap framed_state e ∙ framed-back opened tt

    at-closed : (n : ℕ) → n ≡ top + 2 → framed_state n ≡ closed
    at-closed n e = ap framed_state e ∙ framed-back closed tt

    no-moves : (n byte : ℕ) → top ≤ n → (n ≡ top + 1 → ⊥) → framed_moves n byte ≡ []
    no-moves n byte l h =
        let t = le-ltb n top l in
        let u = ne_eqb n (top + 1) h in
        rw (t, u) refl

    opened-moves : (n byte : ℕ) → n ≡ top + 1 → framed_moves n byte ≡ closing_moves nothing_between sm.first [] byte
    opened-moves n byte e =
        let t = le-ltb n top (omega arith) in
        let u = eq-eqb n (top + 1) e in
        rw (t, u) refl

    abbrev Found : ℕ → ℕ → Move → Type 0
    Found n byte m = (a : Step Within) × QuotedCan sm (framed_state n) byte a × FramedValid a.to × (m ≡ numbered framed_number a)

    pub framed-goes : (n byte : ℕ) (m : Move) → n < top + 3 → Contains (framed_moves n byte) m → Found n byte m
    framed-goes n byte m l h =
        elim (leb_tells top n) [
          | inl k ↦
              elim (outer n l k.1) [
                | inl e ↦ let c : Contains [] m = rw (no-moves n byte k.1 (λ z. omega (arith, e))) at h in absurd (none-there m c)
                | inr o ↦
                    elim o [
                      | inl e ↦
                          let c : Contains (closing_moves nothing_between sm.first [] byte) m = rw (opened-moves n byte e) at h in
                          let g = closing-goes (BareQuotes sm) nothing_between (plain-bare sm) sm.first [] byte m is.begins c in
                          subst (λ (s : Within). (a : Step Within) × QuotedCan sm s byte a × FramedValid a.to × (m ≡ numbered framed_number a)) (sym (at-opened n e)) g
                      | inr e ↦ let c : Contains [] m = rw (no-moves n byte k.1 (λ z. omega (arith, e))) at h in absurd (none-there m c)
                    ]
              ]
          | inr k ↦
              let t = lt-ltb n top k.1 in
              let s = at_state sm n in
              let c : Contains (closing_moves (at_root sm (at_state sm n)) (n / length sm.table) (get_or sm.table (n % length sm.table) []) byte) m = rw t at h in
              let g = closing-goes (IsDone sm (at_state sm n)) (at_root sm (at_state sm n)) (root-done sm is (at_state sm n)) (n / length sm.table) (get_or sm.table (n % length sm.table) []) byte m (at-first sm is n k.1) c in
              rw t g
        ]

    pub framed-gone : (n byte : ℕ) (a : Step Within) → n < top + 3 → QuotedCan sm (framed_state n) byte a → FramedValid a.to × Contains (framed_moves n byte) (numbered framed_number a)
    framed-gone n byte a l h =
        elim (leb_tells top n) [
          | inl k ↦
              elim (outer n l k.1) [
                | inl e ↦ let c : QuotedCan sm missing byte a = subst (λ (s : Within). QuotedCan sm s byte a) (at-missing n e) h in absurd c
                | inr o ↦
                    elim o [
                      | inl e ↦
                          let c : QuotedCan sm opened byte a = subst (λ (s : Within). QuotedCan sm s byte a) (at-opened n e) h in
                          let g = closing-gone (BareQuotes sm) nothing_between (plain-bared sm) sm.first [] byte a is.begins c in
                          (g.0, rw (opened-moves n byte e) g.1)
                      | inr e ↦ let c : QuotedCan sm closed byte a = subst (λ (s : Within). QuotedCan sm s byte a) (at-closed n e) h in absurd c
                    ]
              ]
          | inr k ↦
              let t = lt-ltb n top k.1 in
              let c : QuotedCan sm (inside (at_state sm n)) byte a = rw t at h in
              let g = closing-gone (IsDone sm (at_state sm n)) (at_root sm (at_state sm n)) (done-root sm is (at_state sm n)) (n / length sm.table) (get_or sm.table (n % length sm.table) []) byte a (at-first sm is n k.1) c in
              (g.0, rw t g.1)
        ]

    pub framed-ends : (n : ℕ) → n < top + 3 → framed_done n ≡ true → QuotedDone sm (framed_state n)
    framed-ends n l h =
        elim (leb_tells top n) [
          | inl k ↦
              elim (outer n l k.1) [
                | inl e ↦ subst (QuotedDone sm) (sym (at-missing n e)) tt
                | inr o ↦
                    elim o [
                      | inl e ↦ let f : false ≡ true = rw (le-leb top n k.1, eq-eqb n (top + 1) e) at h in absurd cc
                      | inr e ↦ subst (QuotedDone sm) (sym (at-closed n e)) tt
                    ]
              ]
          | inr k ↦ let f : false ≡ true = rw (lt-leb top n k.1) at h in absurd cc
        ]

    pub framed-ended : (n : ℕ) → n < top + 3 → QuotedDone sm (framed_state n) → framed_done n ≡ true
    framed-ended n l h =
        elim (leb_tells top n) [
          | inl k ↦
              elim (outer n l k.1) [
                | inl e ↦ rw (le-leb top n k.1, ne_eqb n (top + 1) (λ z. omega (arith, e))) refl
                | inr o ↦
                    elim o [
                      | inl e ↦ let c : QuotedDone sm opened = subst (QuotedDone sm) (at-opened n e) h in absurd c
                      | inr e ↦ rw (le-leb top n k.1, ne_eqb n (top + 1) (λ z. omega (arith, e))) refl
                    ]
              ]
          | inr k ↦
              let t = lt-ltb n top k.1 in
              let c : QuotedDone sm (inside (at_state sm n)) = rw t at h in
              absurd c
        ]
