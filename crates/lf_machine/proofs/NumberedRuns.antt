-- The runs of a machine by numbers are those of its states.
use Rattle.std.proofs.Common.{◌≡◌, ℕ, List, [], ◌∷◌, map, true, refl, ap, ◌∙◌}
use Rattle.lf_core.specs.Marked.{Machine, IsRun, IsWholeRun, stop}
use Rattle.lf_core.specs.declared.marked.Move.{Move}
use Rattle.lf_machine.specs.Paths.{Step, IsPath, last}
use Rattle.lf_machine.specs.Parts.{IsWhole, Part}
use Rattle.lf_machine.specs.Numbered.{numbered, IsNumbered}
use Rattle.lf_machine.proofs.Joins.{step-same}

module _ {S : Type 0} (part : Part S) (machine : Machine) (number : S → ℕ) (At : ℕ → S → Type 0)
    (is : IsNumbered part machine number At) where
  pub record Lifted (s : S) (line : List ℕ) (run : List Move) : Type 0 where
    pub steps : List (Step S)
    pub same : run ≡ map (numbered number) steps
    pub path : IsPath part.can s line steps
    pub done_at : part.done (last s steps)

  lift : (line : List ℕ) (run : List Move) (n : ℕ) (s : S) → At n s → IsRun machine.moves n line run → (machine.is_end (stop n run) ≡ true) → Lifted s line run
  lift [] [] n s i p d = record { steps = []; same = refl; path = tt; done_at = is.ends n s i d }
  lift [] (m ∷ run) n s i p d = absurd p
  lift (b ∷ line) [] n s i p d = absurd p
  lift (b ∷ line) (m ∷ run) n s i p d =
      let g = is.goes n s b m i p.0 in
      let q : IsRun machine.moves (number g.0.to) line run = rw (g.3) at p.1 in
      let e : (machine.is_end (stop (number g.0.to) run) ≡ true) = rw (g.3) at d in
      let r = lift line run (number g.0.to) g.0.to g.2 q e in
      record {
        steps = g.0 ∷ r.steps;
        same = ap (λ (x : Move). x ∷ run) g.3 ∙ ap (λ (x : List Move). numbered number g.0 ∷ x) r.same;
        path = (g.1, r.path);
        done_at = r.done_at;
      }

  lower : (line : List ℕ) (steps : List (Step S)) (n : ℕ) (s : S) → At n s → IsPath part.can s line steps → part.done (last s steps) → IsRun machine.moves n line (map (numbered number) steps) × (machine.is_end (stop n (map (numbered number) steps)) ≡ true)
  lower [] [] n s i p d = (tt, is.ended n s i d)
  lower [] (m ∷ run) n s i p d = absurd p
  lower (b ∷ line) [] n s i p d = absurd p
  lower (b ∷ line) (m ∷ run) n s i p d =
      let g = is.gone n s b m i p.0 in
      let r = lower line run (number m.to) m.to g.0 p.1 d in
      ((g.1, r.0), r.1)

  -- each whole run of the machine by numbers is one of the machine's states
  pub whole-states : (line : List ℕ) (run : List Move) → IsWholeRun machine line run → (steps : List (Step S)) × IsWhole part line steps × (run ≡ map (numbered number) steps)
  whole-states [] [] w = ([], is.ends_empty w.1, refl)
  whole-states [] (m ∷ run) w = absurd w.0
  whole-states (b ∷ line) [] w = absurd w.0
  whole-states (b ∷ line) (m ∷ run) w =
      let g = is.enters b m w.0.0 in
      let q : IsRun machine.moves (number g.0.to) line run = rw (g.3) at w.0.1 in
      let e : (machine.is_end (stop (number g.0.to) run) ≡ true) = rw (g.3) at w.1 in
      let r = lift line run (number g.0.to) g.0.to g.2 q e in
      (g.0 ∷ r.steps, (g.1, r.path, r.done_at), ap (λ (x : Move). x ∷ run) g.3 ∙ ap (λ (x : List Move). numbered number g.0 ∷ x) r.same)

  pub states-whole : (line : List ℕ) (steps : List (Step S)) → IsWhole part line steps → IsWholeRun machine line (map (numbered number) steps)
  states-whole [] [] w = (tt, is.ended_empty w)
  states-whole [] (m ∷ run) w = absurd w
  states-whole (b ∷ line) [] w = absurd w
  states-whole (b ∷ line) (m ∷ run) w =
      let g = is.entered b m w.0 in
      let r = lower line run (number m.to) m.to g.0 w.1 w.2 in
      ((g.1, r.0), r.1)

  pub same-step : (a c : Step S) → At (number a.to) a.to → At (number c.to) c.to → numbered number a ≡ numbered number c → a ≡ c
  same-step a c i j e =
      let m : a.mark ≡ c.mark = ap (λ (x : Move). x.mark) e in
      let n : number a.to ≡ number c.to = ap (λ (x : Move). x.to) e in
      let k : At (number a.to) c.to = rw n j in
      let t : a.to ≡ c.to = is.only (number a.to) a.to c.to i k in
      step-same a c m t

  paths-apart : (ra rc : List (Step S)) (la lc : List ℕ) (n k : ℕ) (s t : S) → At n s → At k t → IsPath part.can s la ra → IsPath part.can t lc rc → map (numbered number) ra ≡ map (numbered number) rc → ra ≡ rc
  paths-apart [] [] la lc n k s t i j p q e = refl
  paths-apart [] (c ∷ rc) la lc n k s t i j p q e = cc
  paths-apart (a ∷ ra) [] la lc n k s t i j p q e = cc
  paths-apart (a ∷ ra) rc [] lc n k s t i j p q e = absurd p
  paths-apart (a ∷ ra) (c ∷ rc) (b ∷ la) [] n k s t i j p q e = absurd q
  paths-apart (a ∷ ra) (c ∷ rc) (b ∷ la) (d ∷ lc) n k s t i j p q e =
      let x = is.gone n s b a i p.0 in
      let y = is.gone k t d c j q.0 in
      let h : numbered number a ≡ numbered number c = cc in
      let r : map (numbered number) ra ≡ map (numbered number) rc = cc in
      let u : a ≡ c = same-step a c x.0 y.0 h in
      let v : ra ≡ rc = paths-apart ra rc la lc (number a.to) (number c.to) a.to c.to x.0 y.0 p.1 q.1 r in
      cc

  -- two whole runs of states with one list of moves are one
  pub states-apart : (la lc : List ℕ) (ra rc : List (Step S)) → IsWhole part la ra → IsWhole part lc rc → map (numbered number) ra ≡ map (numbered number) rc → ra ≡ rc
  states-apart la lc [] [] v w e = refl
  states-apart la lc [] (c ∷ rc) v w e = cc
  states-apart la lc (a ∷ ra) [] v w e = cc
  states-apart [] lc (a ∷ ra) (c ∷ rc) v w e = absurd v
  states-apart (b ∷ la) [] (a ∷ ra) (c ∷ rc) v w e = absurd w
  states-apart (b ∷ la) (d ∷ lc) (a ∷ ra) (c ∷ rc) v w e =
      let x = is.entered b a v.0 in
      let y = is.entered d c w.0 in
      let h : numbered number a ≡ numbered number c = cc in
      let r : map (numbered number) ra ≡ map (numbered number) rc = cc in
      let u : a ≡ c = same-step a c x.0 y.0 h in
      let z : ra ≡ rc = paths-apart ra rc la lc (number a.to) (number c.to) a.to c.to x.0 y.0 v.1 w.1 r in
      cc
