-- Of two runs on one line the lesser is the lesser record's.
use Rattle.std.proofs.Common.{◌≡◌, ℕ, ◌<◌, ◌⊎◌, inl, inr, List, [], ◌∷◌, map, sym, ap, subst, arith, Contains}
use Rattle.lf_core.specs.declared.marked.Move.{Move}
use Rattle.lf_core.specs.Runs.{IsRunLess}
use Rattle.lf_format.specs.Lines.{line_text}
use Rattle.lf_format.specs.Keeps.{EachKept}
use Rattle.lf_format.specs.declared.format.Piece.{Piece}
use Rattle.lf_machine.specs.Paths.{Step, IsPath, Before}
use Rattle.lf_machine.specs.Lists.{rises-told}
use Rattle.lf_machine.specs.Numbered.{numbered}
use Rattle.lf_machine.proofs.NumberedRuns.{same-step}
use Rattle.lf_machine.specs.Records.{LineState, IsWholeLine, record_steps, line_part}
use Rattle.lf_machine.proofs.RecordLaws.{steps-complete}
use Rattle.lf_machine.specs.LineMachine.{wide_machine, line_marks, line_number, LineAt, line-numbered, line-rises, record_moves}
use Rattle.lf_machine.proofs.PieceOrder.{steps-order}
use Rattle.lf_machine.specs.RecordOrder.{KeepsOrder}

module _ (ps : List Piece) where
  abbrev num : Step (LineState ps) → Move
  num = numbered (line_number ps)

  one-step : (n byte : ℕ) (a c : Step (LineState ps)) → Contains ((wide_machine ps).moves n byte) (num a) → Contains ((wide_machine ps).moves n byte) (num c) → LineAt ps (line_number ps a.to) a.to → LineAt ps (line_number ps c.to) c.to → a.mark ≡ c.mark → a ≡ c
  one-step n byte a c p q i j e =
      same-step (line_part ps) (wide_machine ps) (line_number ps) (LineAt ps) (line-numbered ps) a c i j
      (rises-told 0 (line_marks ps) ((wide_machine ps).moves n byte) (num a) (num c) (line-rises ps n byte) p q e)

  step-less : (n byte : ℕ) (a c : Step (LineState ps)) (ra rc : List (Step (LineState ps))) → Contains ((wide_machine ps).moves n byte) (num a) → Contains ((wide_machine ps).moves n byte) (num c) → LineAt ps (line_number ps a.to) a.to → LineAt ps (line_number ps c.to) c.to →
      IsRunLess (num a ∷ map num ra) (num c ∷ map num rc) → (a.mark < c.mark) ⊎ ((a ≡ c) × IsRunLess (map num ra) (map num rc))
  step-less n byte a c ra rc p q i j h =
      elim h [
        | inl k ↦
            elim k [
              | inl l ↦ inl l
              | inr l ↦
                  let s = one-step n byte a c p q i j l.0 in
                  let t : line_number ps a.to ≡ line_number ps c.to = ap (λ (x : Step (LineState ps)). line_number ps x.to) s in
                  absurd (omega (arith, l.1, t))
            ]
        | inr l ↦ inr (one-step n byte a c p q i j (ap (λ (x : Move). x.mark) l.0), l.1)
      ]

  path-before : (w : List ℕ) (ra rc : List (Step (LineState ps))) (n : ℕ) (s : LineState ps) → LineAt ps n s → IsPath (line_part ps).can s w ra → IsPath (line_part ps).can s w rc → IsRunLess (map num ra) (map num rc) → Before ra rc
  path-before [] [] [] n s i p q h = h
  path-before w [] (c ∷ rc) n s i p q h = tt
  path-before w (a ∷ ra) [] n s i p q h = absurd h
  path-before [] (a ∷ ra) (c ∷ rc) n s i p q h = absurd p
  path-before (b ∷ w) [] [] n s i p q h = absurd p
  path-before (b ∷ w) (a ∷ ra) (c ∷ rc) n s i p q h =
      let x = (line-numbered ps).gone n s b a i p.0 in
      let y = (line-numbered ps).gone n s b c i q.0 in
      elim (step-less n b a c ra rc x.1 y.1 x.0 y.0 h) [
        | inl k ↦ inl k
        | inr k ↦
            let r : IsPath (line_part ps).can a.to w rc = subst (λ (z : Step (LineState ps)). IsPath (line_part ps).can z.to w rc) (sym k.0) q.1 in
            inr (k.0, path-before w ra rc (line_number ps a.to) a.to x.0 p.1 r k.1)
      ]

  whole-before : (w : List ℕ) (ra rc : List (Step (LineState ps))) → IsWholeLine ps w ra → IsWholeLine ps w rc → IsRunLess (map num ra) (map num rc) → Before ra rc
  whole-before w [] [] p q h = h
  whole-before w [] (c ∷ rc) p q h = tt
  whole-before w (a ∷ ra) [] p q h = absurd h
  whole-before [] (a ∷ ra) (c ∷ rc) p q h = absurd p
  whole-before (b ∷ w) (a ∷ ra) (c ∷ rc) p q h =
      let x = (line-numbered ps).entered b a p.0 in
      let y = (line-numbered ps).entered b c q.0 in
      elim (step-less 0 b a c ra rc x.1 y.1 x.0 y.0 h) [
        | inl k ↦ inl k
        | inr k ↦
            let r : IsPath (line_part ps).can a.to w rc = subst (λ (z : Step (LineState ps)). IsPath (line_part ps).can z.to w rc) (sym k.0) q.1 in
            inr (k.0, path-before w ra rc (line_number ps a.to) a.to x.0 p.1 r k.1)
      ]

pub line-order : (ps : List Piece) → EachKept ps → KeepsOrder ps (record_moves ps)
line-order ps t rec other h g e l =
    let p = steps-complete ps t rec h in
    let q : IsWholeLine ps (line_text ps rec) (record_steps ps other) = subst (λ (w : List ℕ). IsWholeLine ps w (record_steps ps other)) (sym e) (steps-complete ps t other g) in
    steps-order ps t rec other h g e (whole-before ps (line_text ps rec) (record_steps ps rec) (record_steps ps other) p q l)
