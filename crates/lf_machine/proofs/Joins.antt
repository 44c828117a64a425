-- The whole runs of two parts, one after the other, are those of the first and then of the second.
use Rattle.std.proofs.Common.{◌≡◌, ℕ, ◌+◌, ◌⊎◌, inl, inr, List, [], ◌∷◌, ◌++◌, map, ◌<◌, refl, sym, ap, ◌∙◌, arith, ◌≤◌}
use Rattle.lf_machine.specs.Paths.{Step, IsPath, last, Before}
use Rattle.lf_machine.specs.Parts.{Part, IsWhole, both, early, late, joined}

abbrev pub AllLow : {T : Type 0} → ℕ → List (Step T) → Type 0
AllLow top [] = Unit {0}
AllLow top (m ∷ r) = (m.mark < top) × AllLow top r

abbrev pub AllHigh : {T : Type 0} → ℕ → List (Step T) → Type 0
AllHigh low [] = Unit {0}
AllHigh low (m ∷ r) = (low ≤ m.mark) × AllHigh low r

abbrev from_right : {S T : Type 0} → T → S ⊎ T → T
from_right d (inl s) = d
from_right d (inr t) = t

abbrev from_left : {S T : Type 0} → S → S ⊎ T → S
from_left d (inl s) = s
from_left d (inr t) = d

pub step-same : {S : Type 0} (a c : Step S) → a.mark ≡ c.mark → a.to ≡ c.to → a ≡ c
step-same {S} a c p q =
    let f : record { mark = a.mark; to = a.to } ≡ record { mark = c.mark; to = a.to } = ap (λ (n : ℕ). let k : Step S = record { mark = n; to = a.to } in k) p in
    let g : record { mark = c.mark; to = a.to } ≡ record { mark = c.mark; to = c.to } = ap (λ (t : S). let k : Step S = record { mark = c.mark; to = t } in k) q in
    f ∙ g

late-same : {S T : Type 0} (k l : Step T) → late {S = S} k ≡ late {S = S} l → k ≡ l
late-same {S} {T} k l h = step-same k l (ap (λ (x : Step (S ⊎ T)). x.mark) h) (ap (λ (x : Step (S ⊎ T)). from_right k.to x.to) h)

early-same : {S T : Type 0} (above : ℕ) (a c : Step S) → early {T = T} above a ≡ early {T = T} above c → a ≡ c
early-same {S} {T} above a c h =
    let m : above + a.mark ≡ above + c.mark = ap (λ (x : Step (S ⊎ T)). x.mark) h in
    step-same a c (omega arith) (ap (λ (x : Step (S ⊎ T)). from_left a.to x.to) h)

not-both : {S T : Type 0} (above : ℕ) (b : Step T) (c : Step S) → late b ≡ early above c → ⊥
not-both {S} {T} above b c h =
    let t : inr b.to ≡ inl c.to = ap (λ (x : Step (S ⊎ T)). x.to) h in
    cc

-- two parts, one after the other
module _ {S T : Type 0} (above : ℕ) (one : Part S) (two : Part T) where
  -- a whole run of both is one of the first and then one of the second
  pub record Halves (line : List ℕ) (run : List (Step (S ⊎ T))) : Type 0 where
    pub text₁ : List ℕ
    pub text₂ : List ℕ
    pub run₁ : List (Step S)
    pub run₂ : List (Step T)
    pub text : line ≡ text₁ ++ text₂
    pub steps : run ≡ joined above run₁ run₂
    pub whole₁ : IsWhole one text₁ run₁
    pub whole₂ : IsWhole two text₂ run₂

  -- from a state of the second part a run stays there
  pub record Rest₂ (t : T) (line : List ℕ) (run : List (Step (S ⊎ T))) : Type 0 where
    pub run₂ : List (Step T)
    pub steps : run ≡ map late run₂
    pub path : IsPath two.can t line run₂
    pub done : two.done (last t run₂)

  rest₂-step : (b : ℕ) (line : List ℕ) (run : List (Step (S ⊎ T))) (t : T) (m : Step (S ⊎ T)) (k : Step T) → two.can t b k → m ≡ late k → Rest₂ k.to line run → Rest₂ t (b ∷ line) (m ∷ run)
  rest₂-step b line run t m k c e r = record {
    run₂ = k ∷ r.run₂;
    steps = ap (λ (x : Step (S ⊎ T)). x ∷ run) e ∙ ap (λ (x : List (Step (S ⊎ T))). late k ∷ x) r.steps;
    path = (c, r.path);
    done = r.done;
  }

  rest₂ : (line : List ℕ) (run : List (Step (S ⊎ T))) (t : T) → IsPath (both above one two).can (inr t) line run → (both above one two).done (last (inr t) run) → Rest₂ t line run
  rest₂ [] [] t p d = record { run₂ = []; steps = refl; path = tt; done = d }
  rest₂ [] (m ∷ run) t p d = absurd p
  rest₂ (b ∷ line) [] t p d = absurd p
  rest₂ (b ∷ line) (m ∷ run) t p d =
      let q : IsPath (both above one two).can (inr p.0.0.to) line run = rw (p.0.2) at p.1 in
      let f : (both above one two).done (last (inr p.0.0.to) run) = rw (p.0.2) at d in
      rest₂-step b line run t m p.0.0 p.0.1 p.0.2 (rest₂ line run p.0.0.to q f)

  -- from a state of the first part a run goes on there and then goes through the second
  pub record Rest₁ (s : S) (line : List ℕ) (run : List (Step (S ⊎ T))) : Type 0 where
    pub text₁ : List ℕ
    pub text₂ : List ℕ
    pub run₁ : List (Step S)
    pub run₂ : List (Step T)
    pub text : line ≡ text₁ ++ text₂
    pub steps : run ≡ joined above run₁ run₂
    pub path : IsPath one.can s text₁ run₁
    pub done : one.done (last s run₁)
    pub whole₂ : IsWhole two text₂ run₂

  -- a step into the second part from where the first is done
  over : (b : ℕ) (line : List ℕ) (run : List (Step (S ⊎ T))) (m : Step (S ⊎ T)) (k : Step T) → two.enter b k → m ≡ late k → IsPath (both above one two).can m.to line run → (both above one two).done (last m.to run) → (run₂ : List (Step T)) × (m ∷ run ≡ map late run₂) × IsWhole two (b ∷ line) run₂
  over b line run m k c e p d =
      let q : IsPath (both above one two).can (inr k.to) line run = rw e at p in
      let f : (both above one two).done (last (inr k.to) run) = rw e at d in
      let r = rest₂ line run k.to q f in
      (k ∷ r.run₂, ap (λ (x : Step (S ⊎ T)). x ∷ run) e ∙ ap (λ (x : List (Step (S ⊎ T))). late k ∷ x) r.steps, (c, r.path, r.done))

  rest₁-step : (b : ℕ) (line : List ℕ) (run : List (Step (S ⊎ T))) (s : S) (m : Step (S ⊎ T)) (k : Step S) → one.can s b k → m ≡ early above k → Rest₁ k.to line run → Rest₁ s (b ∷ line) (m ∷ run)
  rest₁-step b line run s m k c e r = record {
    text₁ = b ∷ r.text₁;
    text₂ = r.text₂;
    run₁ = k ∷ r.run₁;
    run₂ = r.run₂;
    text = ap (λ (x : List ℕ). b ∷ x) r.text;
    steps = ap (λ (x : Step (S ⊎ T)). x ∷ run) e ∙ ap (λ (x : List (Step (S ⊎ T))). early above k ∷ x) r.steps;
    path = (c, r.path);
    done = r.done;
    whole₂ = r.whole₂;
  }

  rest₁ : (line : List ℕ) (run : List (Step (S ⊎ T))) (s : S) → IsPath (both above one two).can (inl s) line run → (both above one two).done (last (inl s) run) → Rest₁ s line run
  rest₁ [] [] s p d = record { text₁ = []; text₂ = []; run₁ = []; run₂ = []; text = refl; steps = refl; path = tt; done = d.0; whole₂ = d.1 }
  rest₁ [] (m ∷ run) s p d = absurd p
  rest₁ (b ∷ line) [] s p d = absurd p
  rest₁ (b ∷ line) (m ∷ run) s p d =
      elim p.0 [
        | inl a ↦
            let q : IsPath (both above one two).can (inl a.0.to) line run = rw (a.2) at p.1 in
            let f : (both above one two).done (last (inl a.0.to) run) = rw (a.2) at d in
            rest₁-step b line run s m a.0 a.1 a.2 (rest₁ line run a.0.to q f)
        | inr a ↦
            let r = over b line run m a.1 a.2 a.3 p.1 d in
            record { text₁ = []; text₂ = b ∷ line; run₁ = []; run₂ = r.0; text = refl; steps = r.1; path = tt; done = a.0; whole₂ = r.2 }
      ]

  pub halves : (line : List ℕ) (run : List (Step (S ⊎ T))) → IsWhole (both above one two) line run → Halves line run
  halves [] [] w = record { text₁ = []; text₂ = []; run₁ = []; run₂ = []; text = refl; steps = refl; whole₁ = w.0; whole₂ = w.1 }
  halves [] (m ∷ run) w = absurd w
  halves (b ∷ line) [] w = absurd w
  halves (b ∷ line) (m ∷ run) w =
      elim w.0 [
        | inl a ↦
            let q : IsPath (both above one two).can (inl a.0.to) line run = rw (a.2) at w.1 in
            let f : (both above one two).done (last (inl a.0.to) run) = rw (a.2) at w.2 in
            let r = rest₁ line run a.0.to q f in
            record {
              text₁ = b ∷ r.text₁;
              text₂ = r.text₂;
              run₁ = a.0 ∷ r.run₁;
              run₂ = r.run₂;
              text = ap (λ (x : List ℕ). b ∷ x) r.text;
              steps = ap (λ (x : Step (S ⊎ T)). x ∷ run) a.2 ∙ ap (λ (x : List (Step (S ⊎ T))). early above a.0 ∷ x) r.steps;
              whole₁ = (a.1, r.path, r.done);
              whole₂ = r.whole₂;
            }
        | inr a ↦
            let r = over b line run m a.1 a.2 a.3 w.1 w.2 in
            record { text₁ = []; text₂ = b ∷ line; run₁ = []; run₂ = r.0; text = refl; steps = r.1; whole₁ = a.0; whole₂ = r.2 }
      ]

  -- and one of the first and then one of the second is a whole run of both
  joins₂ : (line : List ℕ) (run : List (Step T)) (t : T) → IsPath two.can t line run → two.done (last t run) → IsPath (both above one two).can (inr t) line (map late run) × (both above one two).done (last (inr t) (map late run))
  joins₂ [] [] t p d = (tt, d)
  joins₂ [] (m ∷ run) t p d = absurd p
  joins₂ (b ∷ line) [] t p d = absurd p
  joins₂ (b ∷ line) (m ∷ run) t p d = let r = joins₂ line run m.to p.1 d in (((m, p.0, refl), r.0), r.1)

  joins₁ : (text : List ℕ) (run : List (Step S)) (s : S) (text₂ : List ℕ) (run₂ : List (Step T)) → IsPath one.can s text run → one.done (last s run) → IsWhole two text₂ run₂ →
      IsPath (both above one two).can (inl s) (text ++ text₂) (joined above run run₂) × (both above one two).done (last (inl s) (joined above run run₂))
  joins₁ [] [] s [] [] p d w = (tt, (d, w))
  joins₁ [] [] s [] (k ∷ run₂) p d w = absurd w
  joins₁ [] [] s (b ∷ text₂) [] p d w = absurd w
  joins₁ [] [] s (b ∷ text₂) (k ∷ run₂) p d w = let r = joins₂ text₂ run₂ k.to w.1 w.2 in ((inr (d, k, w.0, refl), r.0), r.1)
  joins₁ [] (m ∷ run) s text₂ run₂ p d w = absurd p
  joins₁ (b ∷ text) [] s text₂ run₂ p d w = absurd p
  joins₁ (b ∷ text) (m ∷ run) s text₂ run₂ p d w = let r = joins₁ text run m.to text₂ run₂ p.1 d w in ((inl (m, p.0, refl), r.0), r.1)

  pub joins : (text : List ℕ) (run : List (Step S)) (text₂ : List ℕ) (run₂ : List (Step T)) → IsWhole one text run → IsWhole two text₂ run₂ →
      IsWhole (both above one two) (text ++ text₂) (joined above run run₂)
  joins [] [] [] [] v w = (v, w)
  joins [] [] [] (k ∷ run₂) v w = absurd w
  joins [] [] (b ∷ text₂) [] v w = absurd w
  joins [] [] (b ∷ text₂) (k ∷ run₂) v w = let r = joins₂ text₂ run₂ k.to w.1 w.2 in (inr (v, k, w.0, refl), r.0, r.1)
  joins [] (m ∷ run) text₂ run₂ v w = absurd v
  joins (b ∷ text) [] text₂ run₂ v w = absurd v
  joins (b ∷ text) (m ∷ run) text₂ run₂ v w = let r = joins₁ text run m.to text₂ run₂ v.1 v.2 w in (inl (m, v.0, refl), r.0, r.1)

-- the first step of a run of the second part is below the marks of the first
abbrev pub IsLow : {T : Type 0} → ℕ → List (Step T) → Type 0
IsLow above [] = Unit {0}
IsLow above (k ∷ run) = k.mark < above

before-late : (S : Type 0) {T : Type 0} (rb rd : List (Step T)) → Before (map (late {S = S}) rb) (map (late {S = S}) rd) → Before rb rd
before-late S [] [] h = absurd h
before-late S [] (d ∷ rd) h = tt
before-late S (b ∷ rb) [] h = absurd h
before-late S (b ∷ rb) (d ∷ rd) h = elim h [ inl m ↦ inl m | inr e ↦ inr (late-same b d e.0, before-late S rb rd e.1) ]

module _ {S T : Type 0} (above : ℕ) where
  -- the two halves of a run are its own
  late-apart : (rb rd : List (Step T)) → map (late {S = S}) rb ≡ map (late {S = S}) rd → rb ≡ rd
  late-apart [] [] e = refl
  late-apart [] (k ∷ rd) e = cc
  late-apart (k ∷ rb) [] e = cc
  late-apart (k ∷ rb) (l ∷ rd) e =
      let h : late {S = S} k ≡ late {S = S} l = cc in
      let t : map (late {S = S}) rb ≡ map (late {S = S}) rd = cc in
      let i : rb ≡ rd = late-apart rb rd t in
      let x : k ≡ l = late-same k l h in
      cc

  pub joined-apart : (ra rc : List (Step S)) (rb rd : List (Step T)) → joined above ra rb ≡ joined above rc rd → (ra ≡ rc) × (rb ≡ rd)
  joined-apart [] [] rb rd e = (refl, late-apart rb rd e)
  joined-apart [] (c ∷ rc) [] rd e = cc
  joined-apart [] (c ∷ rc) (b ∷ rb) rd e = let h : late b ≡ early above c = cc in absurd (not-both above b c h)
  joined-apart (a ∷ ra) [] rb [] e = cc
  joined-apart (a ∷ ra) [] rb (d ∷ rd) e = let h : late d ≡ early above a = cc in absurd (not-both above d a h)
  joined-apart (a ∷ ra) (c ∷ rc) rb rd e =
      let h : early {T = T} above a ≡ early above c = cc in
      let t : joined above ra rb ≡ joined above rc rd = cc in
      let i = joined-apart ra rc rb rd t in
      let x : a ≡ c = early-same above a c h in
      let y : ra ≡ rc = i.0 in
      (cc, i.1)

  -- which of two runs on one line is before the other: their first halves tell, and where these are one, the second
  pub before-halves : (ra rc : List (Step S)) (rb rd : List (Step T)) → IsLow above rb → IsLow above rd → Before (joined above ra rb) (joined above rc rd) → Before ra rc ⊎ ((ra ≡ rc) × Before rb rd)
  before-halves [] [] rb rd l m h = inr (refl, before-late S rb rd h)
  before-halves [] (c ∷ rc) rb rd l m h = inl tt
  before-halves (a ∷ ra) [] rb [] l m h = absurd h
  before-halves (a ∷ ra) [] rb (d ∷ rd) l m h =
      elim h [ inl k ↦ absurd (omega (arith, k, m)) | inr k ↦ absurd (not-both above d a (sym k.0)) ]
  before-halves (a ∷ ra) (c ∷ rc) rb rd l m h =
      elim h [
        | inl k ↦ inl (inl (omega (arith, k)))
        | inr k ↦
            let x : a ≡ c = early-same above a c k.0 in
            elim (before-halves ra rc rb rd l m k.1) [
              | inl f ↦ inl (inr (x, f))
              | inr f ↦ let y : ra ≡ rc = f.0 in inr (cc, f.1)
            ]
      ]
