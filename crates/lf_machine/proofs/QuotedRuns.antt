-- The whole runs of a slot with quotes are those of what it says.
use Rattle.std.proofs.Common.{◌≡◌, ℕ, ◌-◌, ◌⊎◌, inl, inr, List, [], ◌∷◌, ◌++◌, map, Bool, true, false, cond, leb, refl, sym, ap, subst, ◌∙◌, arith}
use Rattle.std.proofs.lemmas.Bool.{cases_Bool}
use Rattle.lf_escape.specs.Codes.{coded}
use Rattle.lf_machine.specs.Paths.{Step, IsPath, last}
use Rattle.lf_machine.specs.Parts.{IsWhole}
use Rattle.lf_machine.specs.Letters.{At, CanStep, IsDone, letters_run}
use Rattle.lf_machine.proofs.LetterRuns.{letters-sound, letters-complete}
use Rattle.lf_machine.specs.Unquoted.{Said, nothing, letters, Within, inside, missing, opened, closed, wrap, dashed, marks_in}
use Rattle.lf_machine.proofs.PlainRuns.{spell, spell-letters, not-empty, true-false}
use Rattle.lf_machine.specs.Quoted.{opening, closing, QuotedCan, QuotedDone, HoldsQuoted, quoted_text, quoted_run, framed_part}
use Rattle.lf_machine.specs.SlotMachine.{SlotMachine}
use Rattle.lf_machine.proofs.SlotOrder.{no-dash}

one-zero : ◌≡◌ {A = ℕ} 1 0 → ⊥
one-zero e = omega arith

apart-quotes : (run : List (Step Within)) → dashed ∷ [] ≡ opening ∷ run → ⊥
apart-quotes run e =
    let g : dashed ≡ opening = cc in
    one-zero (ap (λ (x : Step Within). x.mark) g)

spell-close : (ks : List (Step At)) → spell (marks_in (map wrap ks ++ closing ∷ [])) ≡ spell (marks_in ks)
spell-close [] = refl
spell-close (k ∷ ks) = ap (λ (x : List ℕ). cond (leb 3 k.mark) ((k.mark - 3) ∷ x) x) (spell-close ks)

module _ (sm : SlotMachine) where
  at-end : (s : Within) → (s ≡ closed) ⊎ (s ≡ missing) → (line : List ℕ) (run : List (Step Within)) → IsPath (QuotedCan sm) s line run → (line ≡ []) × (run ≡ [])
  at-end s e [] [] p = (refl, refl)
  at-end s e [] (m ∷ run) p = absurd p
  at-end s e (b ∷ line) [] p = absurd p
  at-end s e (b ∷ line) (m ∷ run) p =
      elim e [
        | inl c ↦ let f : QuotedCan sm closed b m = rw c at p.0 in absurd f
        | inr c ↦ let f : QuotedCan sm missing b m = rw c at p.0 in absurd f
      ]

  -- a path from among letters to the closing quote
  pub record Closes (s : At) (line : List ℕ) (run : List (Step Within)) : Type 0 where
    pub body : List ℕ
    pub steps : List (Step At)
    pub text : line ≡ body ++ 34 ∷ []
    pub same : run ≡ map wrap steps ++ closing ∷ []
    pub path : IsPath (CanStep sm) s body steps
    pub done : IsDone sm (last s steps)

  closes-step : (b : ℕ) (line : List ℕ) (run : List (Step Within)) (s : At) (m : Step Within) (k : Step At) → CanStep sm s b k → m ≡ wrap k → Closes k.to line run → Closes s (b ∷ line) (m ∷ run)
  closes-step b line run s m k c e u = record {
    body = b ∷ u.body;
    steps = k ∷ u.steps;
    text = ap (λ (x : List ℕ). b ∷ x) u.text;
    same = ap (λ (x : Step Within). x ∷ run) e ∙ ap (λ (x : List (Step Within)). wrap k ∷ x) u.same;
    path = (c, u.path);
    done = u.done;
  }

  closes-end : (b : ℕ) (line : List ℕ) (run : List (Step Within)) (m : Step Within) → b ≡ 34 → m ≡ closing → IsPath (QuotedCan sm) m.to line run → (b ∷ line ≡ 34 ∷ []) × (m ∷ run ≡ closing ∷ [])
  closes-end b line run m x y p =
      let r = at-end m.to (inl (ap (λ (z : Step Within). z.to) y)) line run p in
      (ap (λ (z : ℕ). z ∷ line) x ∙ ap (λ (z : List ℕ). 34 ∷ z) r.0, ap (λ (z : Step Within). z ∷ run) y ∙ ap (λ (z : List (Step Within)). closing ∷ z) r.1)

  closes : (line : List ℕ) (run : List (Step Within)) (s : At) → IsPath (QuotedCan sm) (inside s) line run → QuotedDone sm (last (inside s) run) → Closes s line run
  closes [] [] s p d = absurd d
  closes [] (m ∷ run) s p d = absurd p
  closes (b ∷ line) [] s p d = absurd p
  closes (b ∷ line) (m ∷ run) s p d =
      elim p.0 [
        | inl a ↦
            let q : IsPath (QuotedCan sm) (inside a.0.to) line run = rw (a.2) at p.1 in
            let f : QuotedDone sm (last (inside a.0.to) run) = rw (a.2) at d in
            closes-step b line run s m a.0 a.1 a.2 (closes line run a.0.to q f)
        | inr a ↦
            let r = closes-end b line run m a.1 a.2 p.1 in
            record { body = []; steps = []; text = r.0; same = r.1; path = tt; done = a.0 }
      ]

  encloses : (body : List ℕ) (ks : List (Step At)) (s : At) → IsPath (CanStep sm) s body ks → IsDone sm (last s ks) →
      IsPath (QuotedCan sm) (inside s) (body ++ 34 ∷ []) (map wrap ks ++ closing ∷ []) × QuotedDone sm (last (inside s) (map wrap ks ++ closing ∷ []))
  encloses [] [] s p d = ((inr (d, refl, refl), tt), tt)
  encloses [] (k ∷ ks) s p d = absurd p
  encloses (b ∷ body) [] s p d = absurd p
  encloses (b ∷ body) (k ∷ ks) s p d = let r = encloses body ks k.to p.1 d in ((inl (k, p.0, refl), r.0), r.1)

  module _ (one : sm.dash ≡ true → sm.blank ≡ true → ⊥) (blank_apart : sm.blank ≡ true → sm.apart_blank ≡ true) where
    abbrev Found : List ℕ → List (Step Within) → Type 0
    Found line run = (v : Said) × HoldsQuoted sm v × (line ≡ quoted_text sm v) × (run ≡ quoted_run sm v)

    -- what follows the opening quote
    after-open : (line : List ℕ) (run : List (Step Within)) → IsPath (QuotedCan sm) opened line run → QuotedDone sm (last opened run) → Found (34 ∷ line) (opening ∷ run)
    after-open [] [] p d = absurd d
    after-open [] (m ∷ run) p d = absurd p
    after-open (b ∷ line) [] p d = absurd p
    after-open (b ∷ line) (m ∷ run) p d =
        elim p.0 [
          | inl a ↦
              let q : IsPath (QuotedCan sm) (inside a.0.to) line run = rw (a.2) at p.1 in
              let f : QuotedDone sm (last (inside a.0.to) run) = rw (a.2) at d in
              let u = closes line run a.0.to q f in
              let sp = letters-sound sm sm.first (b ∷ u.body) (a.0 ∷ u.steps) (a.1, u.path) u.done in (
                letters sp.letters,
                (sp.taken, sp.held, λ t e. true-false t refl, λ t e. not-empty b u.body (sp.text ∙ ap (coded sm.word) e)),
                ap (λ (x : List ℕ). 34 ∷ b ∷ x) u.text ∙ ap (λ (x : List ℕ). 34 ∷ (x ++ 34 ∷ [])) sp.text,
                ap (λ (x : Step Within). opening ∷ x ∷ run) a.2 ∙ ap (λ (x : List (Step Within)). opening ∷ wrap a.0 ∷ x) u.same ∙ ap (λ (x : List (Step At)). opening ∷ (map wrap x ++ closing ∷ [])) sp.steps,
              )
          | inr a ↦
              let r = closes-end b line run m a.1 a.2 p.1 in
              let x : 34 ∷ b ∷ line ≡ 34 ∷ 34 ∷ [] = ap (λ (z : List ℕ). 34 ∷ z) r.0 in
              let y : opening ∷ m ∷ run ≡ opening ∷ closing ∷ [] = ap (λ (z : List (Step Within)). opening ∷ z) r.1 in
              elim (a.0) [
                | inl h ↦ (
                  nothing,
                  inr h,
                  x ∙ ap (λ (z : Bool). cond {A = List ℕ} z (45 ∷ []) (34 ∷ 34 ∷ [])) (sym (no-dash sm.dash sm.blank one h)),
                  y ∙ ap (λ (z : Bool). cond {A = List (Step Within)} z (dashed ∷ []) (opening ∷ closing ∷ [])) (sym (no-dash sm.dash sm.blank one h)),
                )
                | inr h ↦ (letters [], (tt, h.1, λ t e. true-false t refl, λ t e. true-false t h.0), x, y)
              ]
        ]

    pub quoted-sound : (line : List ℕ) (run : List (Step Within)) → IsWhole (framed_part sm) line run → Found line run
    quoted-sound [] [] h = absurd h
    quoted-sound [] (m ∷ run) h = absurd h
    quoted-sound (b ∷ line) [] h = absurd h
    quoted-sound (b ∷ line) (m ∷ run) h =
        elim h.0 [
          | inl o ↦
              let p : IsPath (QuotedCan sm) opened line run = rw (o.1) at h.1 in
              let d : QuotedDone sm (last opened run) = rw (o.1) at h.2 in
              let r = after-open line run p d in
              (r.0, r.1, ap (λ (z : ℕ). z ∷ line) o.0 ∙ r.2, ap (λ (z : Step Within). z ∷ run) o.1 ∙ r.3)
          | inr a ↦
              let r = at-end m.to (inr (ap (λ (z : Step Within). z.to) a.2)) line run h.1 in (
                nothing,
                inl a.0,
                ap (λ (z : ℕ). z ∷ line) a.1 ∙ ap (λ (z : List ℕ). 45 ∷ z) r.0 ∙ ap (λ (z : Bool). cond {A = List ℕ} z (45 ∷ []) (34 ∷ 34 ∷ [])) (sym a.0),
                ap (λ (z : Step Within). z ∷ run) a.2 ∙ ap (λ (z : List (Step Within)). dashed ∷ z) r.1 ∙ ap (λ (z : Bool). cond {A = List (Step Within)} z (dashed ∷ []) (opening ∷ closing ∷ [])) (sym a.0),
              )
        ]

    open-letters : (cs body : List ℕ) (ks : List (Step At)) → HoldsQuoted sm (letters cs) → ks ≡ letters_run sm sm.first cs →
        IsPath (CanStep sm) (record { point = sm.first; begun = [] }) body ks → IsDone sm (last (record { point = sm.first; begun = [] }) ks) →
        IsWhole (framed_part sm) (34 ∷ (body ++ 34 ∷ [])) (opening ∷ (map wrap ks ++ closing ∷ []))
    open-letters cs [] [] h e p d =
        let z : [] ≡ cs = ap (λ (x : List (Step At)). spell (marks_in x)) e ∙ spell-letters sm cs sm.first h.0 h.1 in
        let a : sm.apart_blank ≡ false = elim (cases_Bool sm.apart_blank) [ inl t ↦ absurd (h.3 t (sym z)) | inr t ↦ t ] in
        (inl (refl, refl), (inr (inr (a, d.1), refl, refl), tt), tt)
    open-letters cs [] (k ∷ ks) h e p d = absurd p
    open-letters cs (b ∷ body) [] h e p d = absurd p
    open-letters cs (b ∷ body) (k ∷ ks) h e p d =
        let r = encloses body ks k.to p.1 d in
        (inl (refl, refl), (inl (k, p.0, refl), r.0), r.1)

    pub quoted-complete : (v : Said) → HoldsQuoted sm v → IsWhole (framed_part sm) (quoted_text sm v) (quoted_run sm v)
    quoted-complete nothing h =
        elim h [
          | inl d ↦ subst (λ (x : Bool). IsWhole (framed_part sm) (cond x (45 ∷ []) (34 ∷ 34 ∷ [])) (cond x (dashed ∷ []) (opening ∷ closing ∷ []))) (sym d) (inr (d, refl, refl), tt, tt)
          | inr b ↦
              subst (λ (x : Bool). IsWhole (framed_part sm) (cond x (45 ∷ []) (34 ∷ 34 ∷ [])) (cond x (dashed ∷ []) (opening ∷ closing ∷ []))) (sym (no-dash sm.dash sm.blank one b))
              (inl (refl, refl), (inr (inl b, refl, refl), tt), tt)
        ]
    quoted-complete (letters cs) h =
        let g = letters-complete sm cs sm.first h.0 h.1 in
        open-letters cs (coded sm.word cs) (letters_run sm sm.first cs) h refl g.0 g.1

    pub run-quoted : (cs : List ℕ) → HoldsQuoted sm (letters cs) → spell (marks_in (quoted_run sm (letters cs))) ≡ cs
    run-quoted cs h = spell-close (letters_run sm sm.first cs) ∙ spell-letters sm cs sm.first h.0 h.1

    nothing-quoted : (cs : List ℕ) → HoldsQuoted sm nothing → HoldsQuoted sm (letters cs) → quoted_run sm nothing ≡ quoted_run sm (letters cs) → ⊥
    nothing-quoted cs h g e =
        elim h [
          | inl d ↦ apart-quotes (map wrap (letters_run sm sm.first cs) ++ closing ∷ []) (ap (λ (x : Bool). cond {A = List (Step Within)} x (dashed ∷ []) (opening ∷ closing ∷ [])) (sym d) ∙ e)
          | inr b ↦
              let r : opening ∷ closing ∷ [] ≡ quoted_run sm (letters cs) = ap (λ (x : Bool). cond {A = List (Step Within)} x (dashed ∷ []) (opening ∷ closing ∷ [])) (sym (no-dash sm.dash sm.blank one b)) ∙ e in
              g.3 (blank_apart b) (sym (ap (λ (x : List (Step Within)). spell (marks_in x)) r ∙ run-quoted cs g))
        ]

    pub quoted-apart : (v u : Said) → HoldsQuoted sm v → HoldsQuoted sm u → quoted_run sm v ≡ quoted_run sm u → v ≡ u
    quoted-apart nothing nothing h g e = refl
    quoted-apart nothing (letters ds) h g e = absurd (nothing-quoted ds h g e)
    quoted-apart (letters cs) nothing h g e = absurd (nothing-quoted cs g h (sym e))
    quoted-apart (letters cs) (letters ds) h g e = ap letters (sym (run-quoted cs h) ∙ ap (λ (x : List (Step Within)). spell (marks_in x)) e ∙ run-quoted ds g)
