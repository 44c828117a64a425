-- The whole runs of a row are those of its parts, one after another.
use Rattle.std.proofs.Common.{◌≡◌, ℕ, ◌+◌, ◌≤◌, map, ◌⊎◌, inl, inr, List, [], ◌∷◌, ◌++◌, refl, sym, ap, ◌∙◌, arith}
use Rattle.std.proofs.lemmas.List.{append_cancel_left}
use Rattle.lf_machine.specs.Paths.{Step, Before}
use Rattle.lf_machine.specs.Parts.{IsWhole, late, joined}
use Rattle.lf_machine.proofs.Joins.{halves, joins, joined-apart, IsLow, before-halves, AllLow}
use Rattle.lf_machine.specs.Rows.{State, marks_of, Filled, line, row_run, Row, rest}

module _ {P S V : Type 0} (row : Row P S V) where
  -- a part has one whole run for each held value, over its text, and no other
  pub record IsExact (p : P) : Type 0 where
    pub sound : (w : List ℕ) (r : List (Step S)) → IsWhole (row.part p) w r → (v : V) × row.Holds p v × (w ≡ row.text p v) × (r ≡ row.run p v)
    pub complete : (v : V) → row.Holds p v → IsWhole (row.part p) (row.text p v) (row.run p v)
    pub apart : (v u : V) → row.Holds p v → row.Holds p u → row.run p v ≡ row.run p u → v ≡ u

  abbrev pub AllExact : List P → Type 0
  AllExact [] = Unit {0}
  AllExact (p ∷ ps) = IsExact p × AllExact ps

  pub row-sound : (ps : List P) → AllExact ps → (w : List ℕ) (r : List (Step (State row ps))) → IsWhole (rest row ps) w r → (vs : List V) × Filled row ps vs × (w ≡ line row ps vs) × (r ≡ row_run row ps vs)
  row-sound [] x [] [] h = ([], tt, refl, refl)
  row-sound [] x [] (m ∷ r) h = absurd h
  row-sound [] x (b ∷ w) [] h = absurd h
  row-sound [] x (b ∷ w) (m ∷ r) h = absurd h.0
  row-sound (p ∷ ps) x w r h =
      let f = halves (marks_of row ps) (row.part p) (rest row ps) w r h in
      let v = x.0.sound f.text₁ f.run₁ f.whole₁ in
      let vs = row-sound ps x.1 f.text₂ f.run₂ f.whole₂ in (
        v.0 ∷ vs.0,
        (v.1, vs.1),
        f.text ∙ ap (λ (t : List ℕ). t ++ f.text₂) v.2 ∙ ap (λ (t : List ℕ). row.text p v.0 ++ t) vs.2,
        f.steps
            ∙ ap (λ (t : List (Step S)). joined (marks_of row ps) t f.run₂) v.3
            ∙ ap (λ (t : List (Step (State row ps))). joined (marks_of row ps) (row.run p v.0) t) vs.3,
      )

  pub row-complete : (ps : List P) → AllExact ps → (vs : List V) → Filled row ps vs → IsWhole (rest row ps) (line row ps vs) (row_run row ps vs)
  row-complete [] x [] f = tt
  row-complete [] x (v ∷ vs) f = absurd f
  row-complete (p ∷ ps) x [] f = absurd f
  row-complete (p ∷ ps) x (v ∷ vs) f =
      joins (marks_of row ps) (row.part p) (rest row ps) (row.text p v) (row.run p v) (line row ps vs) (row_run row ps vs) (x.0.complete v f.0) (row-complete ps x.1 vs f.1)

  pub row-apart : (ps : List P) → AllExact ps → (vs us : List V) → Filled row ps vs → Filled row ps us → row_run row ps vs ≡ row_run row ps us → vs ≡ us
  row-apart [] x [] [] f g e = refl
  row-apart [] x [] (u ∷ us) f g e = absurd g
  row-apart [] x (v ∷ vs) us f g e = absurd f
  row-apart (p ∷ ps) x [] us f g e = absurd f
  row-apart (p ∷ ps) x (v ∷ vs) [] f g e = absurd g
  row-apart (p ∷ ps) x (v ∷ vs) (u ∷ us) f g e =
      let j = joined-apart (marks_of row ps) (row.run p v) (row.run p u) (row_run row ps vs) (row_run row ps us) e in
      let a : v ≡ u = x.0.apart v u f.0 g.0 j.0 in
      let b : vs ≡ us = row-apart ps x.1 vs us f.1 g.1 j.1 in
      cc

  -- of two held values that begin one line the one whose run is before the other is less
  module _ (Less : P → V → V → Type 0) where
    pub record IsOrdered (p : P) : Type 0 where
      pub low : (v : V) → row.Holds p v → AllLow (row.marks p) (row.run p v)
      pub order : (v u : V) (x y : List ℕ) → row.Holds p v → row.Holds p u → row.text p v ++ x ≡ row.text p u ++ y → Before (row.run p v) (row.run p u) → Less p v u

    abbrev pub AllOrdered : List P → Type 0
    AllOrdered [] = Unit {0}
    AllOrdered (p ∷ ps) = IsOrdered p × AllOrdered ps

    -- the first value that differs tells
    abbrev pub RowLess : List P → List V → List V → Type 0
    RowLess [] vs us = ⊥
    RowLess (p ∷ ps) [] us = ⊥
    RowLess (p ∷ ps) (v ∷ vs) [] = ⊥
    RowLess (p ∷ ps) (v ∷ vs) (u ∷ us) = Less p v u ⊎ ((v ≡ u) × RowLess ps vs us)

    below-late : (p : P) (ps : List P) (top : ℕ) (r : List (Step (State row ps))) → marks_of row ps ≤ top → AllLow (marks_of row ps) r → AllLow top (map (late {S = S}) r)
    below-late p ps top [] h a = tt
    below-late p ps top (m ∷ r) h a = (omega (arith, a.0), below-late p ps top r h a.1)

    below-joined : (p : P) (ps : List P) (r : List (Step S)) (t : List (Step (State row ps))) → AllLow (row.marks p) r → AllLow (marks_of row ps) t →
        AllLow (row.marks p + marks_of row ps) (joined (marks_of row ps) r t)
    below-joined p ps [] t a b = below-late p ps (row.marks p + marks_of row ps) t (omega arith) b
    below-joined p ps (m ∷ r) t a b = (omega (arith, a.0), below-joined p ps r t a.1 b)

    pub row-below : (ps : List P) → AllOrdered ps → (vs : List V) → Filled row ps vs → AllLow (marks_of row ps) (row_run row ps vs)
    row-below [] o vs f = tt
    row-below (p ∷ ps) o [] f = absurd f
    row-below (p ∷ ps) o (v ∷ vs) f = below-joined p ps (row.run p v) (row_run row ps vs) (o.0.low v f.0) (row-below ps o.1 vs f.1)

    low-of : (p : P) (ps : List P) (r : List (Step (State row ps))) → AllLow (marks_of row ps) r → IsLow (marks_of row ps) r
    low-of p ps [] a = tt
    low-of p ps (m ∷ r) a = a.0

    pub row-order : (ps : List P) → AllExact ps → AllOrdered ps → (vs us : List V) → Filled row ps vs → Filled row ps us → line row ps vs ≡ line row ps us → Before (row_run row ps vs) (row_run row ps us) → RowLess ps vs us
    row-order [] x o vs us f g e h = absurd h
    row-order (p ∷ ps) x o [] us f g e h = absurd f
    row-order (p ∷ ps) x o (v ∷ vs) [] f g e h = absurd g
    row-order (p ∷ ps) x o (v ∷ vs) (u ∷ us) f g e h =
        elim (before-halves (marks_of row ps) (row.run p v) (row.run p u) (row_run row ps vs) (row_run row ps us)
        (low-of p ps (row_run row ps vs) (row-below ps o.1 vs f.1)) (low-of p ps (row_run row ps us) (row-below ps o.1 us g.1)) h) [
          | inl b ↦ inl (o.0.order v u (line row ps vs) (line row ps us) f.0 g.0 e b)
          | inr b ↦
              let a : v ≡ u = x.0.apart v u f.0 g.0 b.0 in
              let e2 : row.text p u ++ line row ps vs ≡ row.text p u ++ line row ps us = ap (λ (z : V). row.text p z ++ line row ps vs) (sym a) ∙ e in
              inr (a, row-order ps x.1 o.1 vs us f.1 g.1 (append_cancel_left (row.text p u) (line row ps vs) (line row ps us) e2) b.1)
        ]
