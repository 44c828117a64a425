-- The numbers of the states of parts in a row.
use Rattle.std.proofs.Common.{◌≡◌, ℕ, ◌+◌, ◌-◌, ◌<◌, ◌≤◌, inl, inr, List, [], ◌∷◌, ◌++◌, map, true, false, cond, ltb, ◌&&◌, refl, sym, ap, subst, ◌∙◌, arith, Contains}
use Rattle.std.proofs.lemmas.Bool.Decides.{leb_tells}
use Rattle.std.proofs.lemmas.List.Elements.{Contains-append_cases, Contains-append_left, Contains-append_right}
use Rattle.std.proofs.lemmas.Bool.{and_parts, and_from, lt-ltb, le-ltb}
use Rattle.lf_core.specs.declared.marked.Move.{Move}
use Rattle.lf_machine.specs.Paths.{Step}
use Rattle.lf_machine.specs.Parts.{early, late}
use Rattle.lf_machine.specs.Rows.{State, marks_of, Row, rest}
use Rattle.lf_machine.specs.Lists.{none-there, map-from, map-into, cond-there, there-cond}
use Rattle.lf_machine.specs.RowMoves.{shift, all_points, row_enter, row_moves, row_empty, row_done, Numbering}
use Rattle.lf_machine.specs.Numbered.{numbered}

module _ {P S V : Type 0} (row : Row P S V) (num : Numbering P S) where
  -- the part's moves are its steps, by the numbers of its states
  pub record IsPart (p : P) : Type 0 where
    pub range : (s : S) → num.Valid p s → num.number p s < num.count p
    pub back : (s : S) → num.Valid p s → num.state p (num.number p s) ≡ s
    pub enters_by : (byte : ℕ) (m : Move) → Contains (num.enters p byte) m → (a : Step S) × (row.part p).enter byte a × num.Valid p a.to × (m ≡ numbered (num.number p) a)
    pub entered : (byte : ℕ) (a : Step S) → (row.part p).enter byte a → num.Valid p a.to × Contains (num.enters p byte) (numbered (num.number p) a)
    pub goes : (n byte : ℕ) (m : Move) → n < num.count p → Contains (num.moves p n byte) m → (a : Step S) × (row.part p).can (num.state p n) byte a × num.Valid p a.to × (m ≡ numbered (num.number p) a)
    pub gone : (n byte : ℕ) (a : Step S) → n < num.count p → (row.part p).can (num.state p n) byte a → num.Valid p a.to × Contains (num.moves p n byte) (numbered (num.number p) a)
    pub ends : (n : ℕ) → n < num.count p → num.is_done p n ≡ true → (row.part p).done (num.state p n)
    pub ended : (n : ℕ) → n < num.count p → (row.part p).done (num.state p n) → num.is_done p n ≡ true
    pub bare : num.is_empty p ≡ true → (row.part p).empty
    pub bared : (row.part p).empty → num.is_empty p ≡ true

  -- each part has its numbers
  abbrev pub AllParts : List P → Type 0
  AllParts [] = Unit {0}
  AllParts (p ∷ ps) = IsPart p × AllParts ps

  -- the number of a state of the row
  abbrev pub row_number : (ps : List P) → ℕ → State row ps → ℕ
  row_number [] base s = 0
  row_number (p ∷ ps) base s = elim s [ inl a ↦ base + num.number p a | inr b ↦ row_number ps (base + num.count p) b ]

  -- the states that have a number
  abbrev pub RowValid : (ps : List P) → State row ps → Type 0
  RowValid [] s = ⊥
  RowValid (p ∷ ps) s = elim s [ inl a ↦ num.Valid p a | inr b ↦ RowValid ps b ]

  -- the point is the state's
  abbrev pub RowAt : (ps : List P) → ℕ → ℕ → State row ps → Type 0
  RowAt [] base n s = ⊥
  RowAt (p ∷ ps) base n s = elim s [ inl a ↦ (base ≤ n) × (n < base + num.count p) × (num.state p (n - base) ≡ a) | inr b ↦ RowAt ps (base + num.count p) n b ]

  pub row-above : (ps : List P) (base n : ℕ) (s : State row ps) → RowAt ps base n s → base ≤ n
  row-above [] base n s h = absurd h
  row-above (p ∷ ps) base n (inl a) h = h.0
  row-above (p ∷ ps) base n (inr b) h = let r = row-above ps (base + num.count p) n b h in omega (arith, r)

  pub row-below : (ps : List P) (base n : ℕ) (s : State row ps) → RowAt ps base n s → n < base + all_points row num ps
  row-below [] base n s h = absurd h
  row-below (p ∷ ps) base n (inl a) h = omega (arith, h.1)
  row-below (p ∷ ps) base n (inr b) h = let r = row-below ps (base + num.count p) n b h in omega (arith, r)

  pub row-at : (ps : List P) → AllParts ps → (base : ℕ) (s : State row ps) → RowValid ps s → RowAt ps base (row_number ps base s) s
  row-at [] i base s v = absurd v
  row-at (p ∷ ps) i base (inl a) v =
      let r = i.0.range a v in
      let e : (base + num.number p a) - base ≡ num.number p a = omega arith in
      (omega arith, omega (arith, r), ap (num.state p) e ∙ i.0.back a v)
  row-at (p ∷ ps) i base (inr b) v = row-at ps i.1 (base + num.count p) b v

  pub row-only : (ps : List P) (base n : ℕ) (s t : State row ps) → RowAt ps base n s → RowAt ps base n t → s ≡ t
  row-only [] base n s t h g = absurd h
  row-only (p ∷ ps) base n (inl a) (inl c) h g = ap (λ (x : S). let k : State row (p ∷ ps) = inl x in k) (sym h.2 ∙ g.2)
  row-only (p ∷ ps) base n (inl a) (inr d) h g = let r = row-above ps (base + num.count p) n d g in absurd (omega (arith, h.1, r))
  row-only (p ∷ ps) base n (inr b) (inl c) h g = let r = row-above ps (base + num.count p) n b h in absurd (omega (arith, g.1, r))
  row-only (p ∷ ps) base n (inr b) (inr d) h g = ap (λ (x : State row ps). let k : State row (p ∷ ps) = inr x in k) (row-only ps (base + num.count p) n b d h g)

  pub row-covers : (ps : List P) (base n : ℕ) → base ≤ n → n < base + all_points row num ps → (s : State row ps) × RowAt ps base n s
  row-covers [] base n h g = absurd (omega arith)
  row-covers (p ∷ ps) base n h g =
      elim (leb_tells (base + num.count p) n) [
        | inl k ↦ let r = row-covers ps (base + num.count p) n k.1 (omega arith) in (inr r.0, r.1)
        | inr k ↦ (inl (num.state p (n - base)), (h, k.1, refl))
      ]

  shift-same : (p : P) (ps : List P) (base : ℕ) (a : Step S) → shift (marks_of row ps) base (numbered (num.number p) a) ≡ numbered (row_number (p ∷ ps) base) (early (marks_of row ps) a)
  shift-same p ps base a = refl

  abbrev Entry : (ps : List P) → ℕ → ℕ → Move → Type 0
  Entry ps base byte m = (a : Step (State row ps)) × (rest row ps).enter byte a × RowValid ps a.to × (m ≡ numbered (row_number ps base) a)

  pub row-enters : (ps : List P) → AllParts ps → (base byte : ℕ) (m : Move) → Contains (row_enter row num ps base byte) m → Entry ps base byte m
  row-enters [] i base byte m h = absurd (none-there m h)
  row-enters (p ∷ ps) i base byte m h =
      elim (Contains-append_cases (cond (num.is_empty p) (row_enter row num ps (base + num.count p) byte) []) (map (shift (marks_of row ps) base) (num.enters p byte)) m h) [
        | inl k ↦
            let c = cond-there (num.is_empty p) (row_enter row num ps (base + num.count p) byte) m k in
            let r = row-enters ps i.1 (base + num.count p) byte m c.1 in
            (late r.0, inr (i.0.bare c.0, r.0, r.1, refl), r.2, r.3)
        | inr k ↦
            let f = map-from (shift (marks_of row ps) base) (num.enters p byte) m k in
            let r = i.0.enters_by byte f.0 f.1 in
            (early (marks_of row ps) r.0, inl (r.0, r.1, refl), r.2, f.2 ∙ ap (shift (marks_of row ps) base) r.3 ∙ shift-same p ps base r.0)
      ]

  pub row-entered : (ps : List P) → AllParts ps → (base byte : ℕ) (a : Step (State row ps)) → (rest row ps).enter byte a → RowValid ps a.to × Contains (row_enter row num ps base byte) (numbered (row_number ps base) a)
  row-entered [] i base byte a h = absurd h
  row-entered (p ∷ ps) i base byte a h =
      elim h [
        | inl k ↦
            let r = i.0.entered byte k.0 k.1 in
            let c : Contains (map (shift (marks_of row ps) base) (num.enters p byte)) (shift (marks_of row ps) base (numbered (num.number p) k.0)) = map-into (shift (marks_of row ps) base) (num.enters p byte) (numbered (num.number p) k.0) r.1 in
            let e : shift (marks_of row ps) base (numbered (num.number p) k.0) ≡ numbered (row_number (p ∷ ps) base) a = shift-same p ps base k.0 ∙ ap (numbered (row_number (p ∷ ps) base)) (sym k.2) in
            let v : RowValid (p ∷ ps) a.to = rw (k.2) r.0 in
            (v, Contains-append_right (cond (num.is_empty p) (row_enter row num ps (base + num.count p) byte) []) (map (shift (marks_of row ps) base) (num.enters p byte)) (numbered (row_number (p ∷ ps) base) a) (rw e at c))
        | inr k ↦
            let r = row-entered ps i.1 (base + num.count p) byte k.1 k.2 in
            let e : numbered (row_number ps (base + num.count p)) k.1 ≡ numbered (row_number (p ∷ ps) base) a = ap (numbered (row_number (p ∷ ps) base)) (sym k.3) in
            let v : RowValid (p ∷ ps) a.to = rw (k.3) r.0 in
            let c : Contains (row_enter row num ps (base + num.count p) byte) (numbered (row_number (p ∷ ps) base) a) = rw e at r.1 in (
              v,
              Contains-append_left (cond (num.is_empty p) (row_enter row num ps (base + num.count p) byte) []) (map (shift (marks_of row ps) base) (num.enters p byte)) (numbered (row_number (p ∷ ps) base) a)
                  (there-cond (num.is_empty p) (row_enter row num ps (base + num.count p) byte) (numbered (row_number (p ∷ ps) base) a) (i.0.bared k.0) c),
            )
      ]

  abbrev Going : (ps : List P) → ℕ → State row ps → ℕ → Move → Type 0
  Going ps base s byte m = (a : Step (State row ps)) × (rest row ps).can s byte a × RowValid ps a.to × (m ≡ numbered (row_number ps base) a)

  abbrev own_moves : P → List P → ℕ → ℕ → ℕ → List Move
  own_moves p ps base k byte = cond (num.is_done p k) (row_enter row num ps (base + num.count p) byte) [] ++ map (shift (marks_of row ps) base) (num.moves p k byte)

  own-goes : (p : P) (ps : List P) → AllParts (p ∷ ps) → (base k byte : ℕ) (m : Move) → k < num.count p → Contains (own_moves p ps base k byte) m → Going (p ∷ ps) base (inl (num.state p k)) byte m
  own-goes p ps i base k byte m l h =
      elim (Contains-append_cases (cond (num.is_done p k) (row_enter row num ps (base + num.count p) byte) []) (map (shift (marks_of row ps) base) (num.moves p k byte)) m h) [
        | inl q ↦
            let c = cond-there (num.is_done p k) (row_enter row num ps (base + num.count p) byte) m q in
            let r = row-enters ps i.1 (base + num.count p) byte m c.1 in
            (late r.0, inr (i.0.ends k l c.0, r.0, r.1, refl), r.2, r.3)
        | inr q ↦
            let f = map-from (shift (marks_of row ps) base) (num.moves p k byte) m q in
            let r = i.0.goes k byte f.0 l f.1 in
            (early (marks_of row ps) r.0, inl (r.0, r.1, refl), r.2, f.2 ∙ ap (shift (marks_of row ps) base) r.3 ∙ shift-same p ps base r.0)
      ]

  pub row-goes : (ps : List P) → AllParts ps → (base n : ℕ) (s : State row ps) (byte : ℕ) (m : Move) → RowAt ps base n s → Contains (row_moves row num ps base n byte) m → Going ps base s byte m
  row-goes [] i base n s byte m a h = absurd a
  row-goes (p ∷ ps) i base n (inl s) byte m a h =
      let e : ltb n (base + num.count p) ≡ true = lt-ltb n (base + num.count p) a.1 in
      let c : Contains (own_moves p ps base (n - base) byte) m = rw e at h in
      let g = own-goes p ps i base (n - base) byte m (omega arith) c in
      subst (λ (x : S). Going (p ∷ ps) base (inl x) byte m) a.2 g
  row-goes (p ∷ ps) i base n (inr t) byte m a h =
      let e : ltb n (base + num.count p) ≡ false = le-ltb n (base + num.count p) (row-above ps (base + num.count p) n t a) in
      let c : Contains (row_moves row num ps (base + num.count p) n byte) m = rw e at h in
      let r = row-goes ps i.1 (base + num.count p) n t byte m a c in
      (late r.0, (r.0, r.1, refl), r.2, r.3)

  abbrev Gone : (ps : List P) → ℕ → ℕ → ℕ → Step (State row ps) → Type 0
  Gone ps base n byte a = RowValid ps a.to × Contains (row_moves row num ps base n byte) (numbered (row_number ps base) a)

  own-gone : (p : P) (ps : List P) → AllParts (p ∷ ps) → (base k byte : ℕ) (a : Step (State row (p ∷ ps))) → k < num.count p → (rest row (p ∷ ps)).can (inl (num.state p k)) byte a → RowValid (p ∷ ps) a.to × Contains (own_moves p ps base k byte) (numbered (row_number (p ∷ ps) base) a)
  own-gone p ps i base k byte a l h =
      elim h [
        | inl q ↦
            let r = i.0.gone k byte q.0 l q.1 in
            let c : Contains (map (shift (marks_of row ps) base) (num.moves p k byte)) (shift (marks_of row ps) base (numbered (num.number p) q.0)) = map-into (shift (marks_of row ps) base) (num.moves p k byte) (numbered (num.number p) q.0) r.1 in
            let e : shift (marks_of row ps) base (numbered (num.number p) q.0) ≡ numbered (row_number (p ∷ ps) base) a = shift-same p ps base q.0 ∙ ap (numbered (row_number (p ∷ ps) base)) (sym q.2) in
            let v : RowValid (p ∷ ps) a.to = rw (q.2) r.0 in
            (v, Contains-append_right (cond (num.is_done p k) (row_enter row num ps (base + num.count p) byte) []) (map (shift (marks_of row ps) base) (num.moves p k byte)) (numbered (row_number (p ∷ ps) base) a) (rw e at c))
        | inr q ↦
            let r = row-entered ps i.1 (base + num.count p) byte q.1 q.2 in
            let e : numbered (row_number ps (base + num.count p)) q.1 ≡ numbered (row_number (p ∷ ps) base) a = ap (numbered (row_number (p ∷ ps) base)) (sym q.3) in
            let v : RowValid (p ∷ ps) a.to = rw (q.3) r.0 in
            let c : Contains (row_enter row num ps (base + num.count p) byte) (numbered (row_number (p ∷ ps) base) a) = rw e at r.1 in (
              v,
              Contains-append_left (cond (num.is_done p k) (row_enter row num ps (base + num.count p) byte) []) (map (shift (marks_of row ps) base) (num.moves p k byte)) (numbered (row_number (p ∷ ps) base) a)
                  (there-cond (num.is_done p k) (row_enter row num ps (base + num.count p) byte) (numbered (row_number (p ∷ ps) base) a) (i.0.ended k l q.0) c),
            )
      ]

  pub row-gone : (ps : List P) → AllParts ps → (base n : ℕ) (s : State row ps) (byte : ℕ) (a : Step (State row ps)) → RowAt ps base n s → (rest row ps).can s byte a → Gone ps base n byte a
  row-gone [] i base n s byte a h c = absurd h
  row-gone (p ∷ ps) i base n (inl s) byte a h c =
      let e : ltb n (base + num.count p) ≡ true = lt-ltb n (base + num.count p) h.1 in
      let d : (rest row (p ∷ ps)).can (inl (num.state p (n - base))) byte a = subst (λ (x : S). (rest row (p ∷ ps)).can (inl x) byte a) (sym h.2) c in
      let g = own-gone p ps i base (n - base) byte a (omega arith) d in
      (g.0, rw e g.1)
  row-gone (p ∷ ps) i base n (inr t) byte a h c =
      let e : ltb n (base + num.count p) ≡ false = le-ltb n (base + num.count p) (row-above ps (base + num.count p) n t h) in
      let r = row-gone ps i.1 (base + num.count p) n t byte c.0 h c.1 in
      let v : RowValid (p ∷ ps) a.to = rw (c.2) r.0 in
      let f : numbered (row_number ps (base + num.count p)) c.0 ≡ numbered (row_number (p ∷ ps) base) a = ap (numbered (row_number (p ∷ ps) base)) (sym c.2) in
      let d : Contains (row_moves row num ps (base + num.count p) n byte) (numbered (row_number (p ∷ ps) base) a) = rw f at r.1 in
      (v, rw e d)

  pub row-bare : (ps : List P) → AllParts ps → row_empty row num ps ≡ true → (rest row ps).empty
  row-bare [] i h = tt
  row-bare (p ∷ ps) i h = let g = and_parts (num.is_empty p) (row_empty row num ps) h in (i.0.bare g.0, row-bare ps i.1 g.1)

  pub row-bared : (ps : List P) → AllParts ps → (rest row ps).empty → row_empty row num ps ≡ true
  row-bared [] i h = refl
  row-bared (p ∷ ps) i h = and_from (num.is_empty p) (row_empty row num ps) (i.0.bared h.0) (row-bared ps i.1 h.1)

  pub row-ends : (ps : List P) → AllParts ps → (base n : ℕ) (s : State row ps) → RowAt ps base n s → row_done row num ps base n ≡ true → (rest row ps).done s
  row-ends [] i base n s h d = absurd h
  row-ends (p ∷ ps) i base n (inl s) h d =
      let e : ltb n (base + num.count p) ≡ true = lt-ltb n (base + num.count p) h.1 in
      let c : num.is_done p (n - base) && row_empty row num ps ≡ true = rw e at d in
      let g = and_parts (num.is_done p (n - base)) (row_empty row num ps) c in
      (subst (λ (x : S). (row.part p).done x) h.2 (i.0.ends (n - base) (omega arith) g.0), row-bare ps i.1 g.1)
  row-ends (p ∷ ps) i base n (inr t) h d =
      let e : ltb n (base + num.count p) ≡ false = le-ltb n (base + num.count p) (row-above ps (base + num.count p) n t h) in
      let c : row_done row num ps (base + num.count p) n ≡ true = rw e at d in
      row-ends ps i.1 (base + num.count p) n t h c

  pub row-ended : (ps : List P) → AllParts ps → (base n : ℕ) (s : State row ps) → RowAt ps base n s → (rest row ps).done s → row_done row num ps base n ≡ true
  row-ended [] i base n s h d = absurd h
  row-ended (p ∷ ps) i base n (inl s) h d =
      let e : ltb n (base + num.count p) ≡ true = lt-ltb n (base + num.count p) h.1 in
      let g : (row.part p).done (num.state p (n - base)) = subst (λ (x : S). (row.part p).done x) (sym h.2) d.0 in
      rw e (and_from (num.is_done p (n - base)) (row_empty row num ps) (i.0.ended (n - base) (omega arith) g) (row-bared ps i.1 d.1))
  row-ended (p ∷ ps) i base n (inr t) h d =
      let e : ltb n (base + num.count p) ≡ false = le-ltb n (base + num.count p) (row-above ps (base + num.count p) n t h) in
      rw e (row-ended ps i.1 (base + num.count p) n t h d)
