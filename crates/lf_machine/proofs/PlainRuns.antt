-- The whole runs of a slot without quotes are those of what it says.
use Rattle.std.proofs.Common.{◌≡◌, ◌≢◌, ℕ, ◌+◌, ◌-◌, inl, inr, List, [], ◌∷◌, ◌++◌, map, Some, Bool, true, false, cond, leb, ◌==◌, ◌&&◌, refl, sym, ap, subst, ◌∙◌, arith}
use Rattle.std.proofs.lemmas.Bool.Decides.{nat_tests}
use Rattle.std.proofs.lemmas.Bool.{cases_Bool, and_parts}
use Rattle.lf_core.specs.Domain.{accepts}
use Rattle.lf_core.specs.AcceptsLaws.{accepts-first}
use Rattle.lf_escape.specs.Codes.{coded}
use Rattle.lf_machine.specs.Paths.{Step, IsPath, last}
use Rattle.lf_machine.specs.Parts.{IsWhole}
use Rattle.lf_machine.specs.Letters.{At, letter_step, CanStep, IsDone, AllTaken, word_run, letters_run}
use Rattle.lf_machine.proofs.LetterRuns.{letters_run-first, Spells, letters-sound, letters-complete}
use Rattle.lf_machine.specs.Unquoted.{Said, nothing, letters, Within, inside, missing, lone, wrap, marks_in, dashed, wrap_first, SlotCan, SlotDone, HoldsSaid, said_text, start_run, said_run, plain_part}
use Rattle.lf_machine.specs.SlotMachine.{SlotMachine}
use Rattle.lf_machine.proofs.SlotOrder.{no-dash}

pub wrap-marks : (ks : List (Step At)) → marks_in (map wrap ks) ≡ marks_in ks
wrap-marks [] = refl
wrap-marks (k ∷ ks) = ap (λ (x : List ℕ). k.mark ∷ x) (wrap-marks ks)

never-missing : (b : Bool) (s : At) → missing ≡ cond b lone (inside s) → ⊥
never-missing true s e = cc
never-missing false s e = cc

not-lone : (a : Bool) (m : ℕ) → a ≡ true → a && (m == 48) ≡ false → m ≡ 48 → ⊥
not-lone a m h f e = grind (arith, nat_tests)

pub not-empty : {A : Type 0} (b : A) (line : List A) → b ∷ line ≡ [] → ⊥
not-empty b line e = cc

-- the letters that marks tell
abbrev pub spell : List ℕ → List ℕ
spell [] = []
spell (m ∷ ms) = cond (leb 3 m) ((m - 3) ∷ spell ms) (spell ms)

not-both-marks : (m : ℕ) → m ≡ 2 → (m == 48) ≡ true → ⊥
not-both-marks m e h = grind (arith, nat_tests)

dash-mark : (m c : ℕ) → m ≡ 3 + c → (m == 48) ≡ true → c ≡ 45
dash-mark m c e h = grind (arith, nat_tests)

pub true-false : {b : Bool} → b ≡ true → b ≡ false → ⊥
true-false {b} t f = cc

module _ (sm : SlotMachine) where
  spell-letter : (c : ℕ) (ms : List ℕ) → spell ((3 + c) ∷ ms) ≡ c ∷ spell ms
  spell-letter c ms =
      let t : leb 3 (3 + c) ≡ true = grind (arith, nat_tests) in
      let e : (3 + c) - 3 ≡ c = omega arith in
      rw (t, e)

  spell-word : (rest : List ℕ) (q after c b : ℕ) (read : List ℕ) (run : List (Step At)) → spell (marks_in (word_run sm q after c read (b ∷ rest) ++ run)) ≡ c ∷ spell (marks_in run)
  spell-word [] q after c b read run = spell-letter c (marks_in run)
  spell-word (x ∷ rest) q after c b read run = spell-word rest q after c x (read ++ b ∷ []) run

  -- a run's marks tell its letters
  pub spell-letters : (cs : List ℕ) (q : ℕ) → AllTaken sm cs → accepts sm.next sm.ends q cs ≡ true → spell (marks_in (letters_run sm q cs)) ≡ cs
  spell-letters [] q t a = refl
  spell-letters (c ∷ cs) q t a =
      let f = accepts-first sm.next sm.ends q c cs a in
      let w = sm.least c t.0 in
      rw (letters_run-first sm q c f.0 w.0 w.1 cs f.1 w.2)
      (spell-word w.1 q f.0 c w.0 [] (letters_run sm f.0 cs) ∙ ap (λ (x : List ℕ). c ∷ x) (spell-letters cs f.0 t.1 f.2))

  -- a path among letters
  pub record Unwrapped (s : At) (line : List ℕ) (run : List (Step Within)) : Type 0 where
    pub steps : List (Step At)
    pub same : run ≡ map wrap steps
    pub path : IsPath (CanStep sm) s line steps
    pub done : IsDone sm (last s steps)

  unwrap-step : (b : ℕ) (line : List ℕ) (run : List (Step Within)) (s : At) (m : Step Within) (k : Step At) → CanStep sm s b k → m ≡ wrap k → Unwrapped k.to line run → Unwrapped s (b ∷ line) (m ∷ run)
  unwrap-step b line run s m k c e u = record {
    steps = k ∷ u.steps;
    same = ap (λ (x : Step Within). x ∷ run) e ∙ ap (λ (x : List (Step Within)). wrap k ∷ x) u.same;
    path = (c, u.path);
    done = u.done;
  }

  unwrap : (line : List ℕ) (run : List (Step Within)) (s : At) → IsPath (SlotCan sm) (inside s) line run → SlotDone sm (last (inside s) run) → Unwrapped s line run
  unwrap [] [] s p d = record { steps = []; same = refl; path = tt; done = d }
  unwrap [] (m ∷ run) s p d = absurd p
  unwrap (b ∷ line) [] s p d = absurd p
  unwrap (b ∷ line) (m ∷ run) s p d =
      let q : IsPath (SlotCan sm) (inside p.0.0.to) line run = rw (p.0.2) at p.1 in
      let f : SlotDone sm (last (inside p.0.0.to) run) = rw (p.0.2) at d in
      unwrap-step b line run s m p.0.0 p.0.1 p.0.2 (unwrap line run p.0.0.to q f)

  wrap-path : (line : List ℕ) (ks : List (Step At)) (s : At) → IsPath (CanStep sm) s line ks → IsDone sm (last s ks) → IsPath (SlotCan sm) (inside s) line (map wrap ks) × SlotDone sm (last (inside s) (map wrap ks))
  wrap-path [] [] s p d = (tt, d)
  wrap-path [] (k ∷ ks) s p d = absurd p
  wrap-path (b ∷ line) [] s p d = absurd p
  wrap-path (b ∷ line) (k ∷ ks) s p d = let r = wrap-path line ks k.to p.1 d in (((k, p.0, refl), r.0), r.1)

  at-missing : (line : List ℕ) (run : List (Step Within)) → IsPath (SlotCan sm) missing line run → (line ≡ []) × (run ≡ [])
  at-missing [] [] p = (refl, refl)
  at-missing [] (m ∷ run) p = absurd p
  at-missing (b ∷ line) [] p = absurd p
  at-missing (b ∷ line) (m ∷ run) p = absurd p.0

  -- a step whose mark tells a dash ends that letter
  pub dash-step : (s : At) (b : ℕ) (k : Step At) → CanStep sm s b k → (k.mark == 48) ≡ true → (q : ℕ) × (sm.next s.point 45 ≡ Some q) × (k ≡ letter_step 45 q)
  dash-step s b k c h =
      elim c [
        | inl i ↦
            let m : k.mark ≡ 2 = ap (λ (x : Step At). x.mark) i.5 in
            absurd (not-both-marks k.mark m h)
        | inr l ↦
            let m : k.mark ≡ 3 + l.0 = ap (λ (x : Step At). x.mark) l.5 in
            let z : l.0 ≡ 45 = dash-mark k.mark l.0 m h in
            let n : sm.next s.point 45 ≡ Some l.1 = ap (λ (x : ℕ). sm.next s.point x) (sym z) ∙ l.4 in
            (l.1, n, l.5 ∙ ap (λ (x : ℕ). letter_step x l.1) z)
      ]

  module _ (dash_word : sm.takes 45 ≡ true → sm.word 45 ≡ 45 ∷ []) (one : sm.dash ≡ true → sm.blank ≡ true → ⊥) (blank_apart : sm.blank ≡ true → sm.apart_blank ≡ true) where
    -- the run of a lone dash ends with its mark
    lone-run : (cs : List ℕ) (k : Step At) (ks : List (Step At)) → AllTaken sm cs → accepts sm.next sm.ends sm.first cs ≡ true → k ∷ ks ≡ letters_run sm sm.first cs → cs ≡ 45 ∷ [] → (k.mark ≡ 48) × (ks ≡ [])
    lone-run [] k ks t a e h = cc
    lone-run (c ∷ cs) k ks t a e h =
        let c_is : c ≡ 45 = cc in
        let cs_is : cs ≡ [] = cc in
        let f = accepts-first sm.next sm.ends sm.first c cs a in
        let w : sm.word c ≡ 45 ∷ [] = ap sm.word c_is ∙ dash_word (ap sm.takes (sym c_is) ∙ t.0) in
        let r : letters_run sm sm.first (c ∷ cs) ≡ letter_step c f.0 ∷ letters_run sm f.0 cs = letters_run-first sm sm.first c f.0 45 [] cs f.1 w in
        let g : k ∷ ks ≡ letter_step c f.0 ∷ letters_run sm f.0 cs = e ∙ r in
        let k_is : k ≡ letter_step c f.0 = cc in
        let ks_is : ks ≡ letters_run sm f.0 cs = cc in
        (ap (λ (x : Step At). x.mark) k_is ∙ ap (λ (x : ℕ). 3 + x) c_is, ks_is ∙ ap (λ (x : List ℕ). letters_run sm f.0 x) cs_is)

    said-letters : (b : ℕ) (line : List ℕ) (k : Step At) (ks : List (Step At)) (sp : Spells sm sm.first (b ∷ line) (k ∷ ks)) →
        (sm.apart_dash ≡ true → sp.letters ≢ 45 ∷ []) → (v : Said) × HoldsSaid sm v × (b ∷ line ≡ said_text sm v) × (wrap_first sm k ∷ map wrap ks ≡ said_run sm v)
    said-letters b line k ks sp d =
        (letters sp.letters, (sp.taken, sp.held, d, λ t e. not-empty b line (sp.text ∙ ap (coded sm.word) e)), sp.text, ap (start_run sm) sp.steps)

    said-lone : (b : ℕ) (line : List ℕ) (run : List (Step Within)) (k : Step At) → CanStep sm (record { point = sm.first; begun = [] }) b k → (k.mark == 48) ≡ true →
        IsPath (SlotCan sm) lone line run → SlotDone sm (last lone run) → (v : Said) × HoldsSaid sm v × (b ∷ line ≡ said_text sm v) × (wrap_first sm k ∷ run ≡ said_run sm v)
    said-lone b [] [] k c h p d = absurd d
    said-lone b [] (m ∷ run) k c h p d = absurd p
    said-lone b (x ∷ line) [] k c h p d = absurd p
    said-lone b (x ∷ line) (m ∷ run) k c h p d =
        let q = p.0.0 in
        let k2 = p.0.1 in
        let ds = dash-step (record { point = sm.first; begun = [] }) b k c h in
        let e : Some ds.0 ≡ Some q = sym ds.1 ∙ p.0.2 in
        let q_is : ds.0 ≡ q = cc in
        let kt : k.to ≡ record { point = q; begun = [] } = ap (λ (z : Step At). z.to) ds.2 ∙ ap (λ (z : ℕ). let a : At = record { point = z; begun = [] } in a) q_is in
        let c2 : CanStep sm k.to x k2 = rw kt p.0.3 in
        let p2 : IsPath (SlotCan sm) (inside k2.to) line run = rw (p.0.4) at p.1 in
        let d2 : SlotDone sm (last (inside k2.to) run) = rw (p.0.4) at d in
        let u = unwrap line run k2.to p2 d2 in
        let sp = letters-sound sm sm.first (b ∷ x ∷ line) (k ∷ k2 ∷ u.steps) (c, (c2, u.path)) u.done in
        let r = said-letters b (x ∷ line) k (k2 ∷ u.steps) sp (λ t z. not-empty k2 u.steps (lone-run sp.letters k (k2 ∷ u.steps) sp.taken sp.held sp.steps z).1) in
        (r.0, r.1, r.2, ap (λ (z : Step Within). wrap_first sm k ∷ z ∷ run) p.0.4 ∙ ap (λ (z : List (Step Within)). wrap_first sm k ∷ wrap k2 ∷ z) u.same ∙ r.3)

    pub said-sound : (line : List ℕ) (run : List (Step Within)) → IsWhole (plain_part sm) line run → (v : Said) × HoldsSaid sm v × (line ≡ said_text sm v) × (run ≡ said_run sm v)
    said-sound [] [] h =
        elim h [
          | inl b ↦ (nothing, inr b, ap (λ (x : Bool). cond {A = List ℕ} x (45 ∷ []) []) (sym (no-dash sm.dash sm.blank one b)), ap (λ (x : Bool). cond {A = List (Step Within)} x (dashed ∷ []) []) (sym (no-dash sm.dash sm.blank one b)))
          | inr e ↦ (letters [], (tt, e.1, λ t x. cc, λ t x. true-false t e.0), refl, refl)
        ]
    said-sound [] (m ∷ run) h = absurd h
    said-sound (b ∷ line) [] h = absurd h
    said-sound (b ∷ line) (m ∷ run) h =
        elim h.0 [
          | inl d ↦
              let p : IsPath (SlotCan sm) missing line run = rw (d.2) at h.1 in
              let e = at-missing line run p in (
                nothing,
                inl d.0,
                ap (λ (x : ℕ). x ∷ line) d.1 ∙ ap (λ (x : List ℕ). 45 ∷ x) e.0 ∙ ap (λ (x : Bool). cond {A = List ℕ} x (45 ∷ []) []) (sym d.0),
                ap (λ (x : Step Within). x ∷ run) d.2 ∙ ap (λ (x : List (Step Within)). dashed ∷ x) e.1 ∙ ap (λ (x : Bool). cond {A = List (Step Within)} x (dashed ∷ []) []) (sym d.0),
              )
          | inr k ↦
              elim (cases_Bool (sm.apart_dash && k.0.mark == 48)) [
                | inl t ↦
                    let q : m.to ≡ lone = ap (λ (x : Step Within). x.to) k.2 ∙ ap (λ (x : Bool). cond {A = Within} x lone (inside k.0.to)) t in
                    let p : IsPath (SlotCan sm) lone line run = rw q at h.1 in
                    let d : SlotDone sm (last lone run) = rw q at h.2 in
                    let r = said-lone b line run k.0 k.1 (and_parts sm.apart_dash (k.0.mark == 48) t).1 p d in
                    (r.0, r.1, r.2, ap (λ (x : Step Within). x ∷ run) k.2 ∙ r.3)
                | inr t ↦
                    let q : m.to ≡ inside k.0.to = ap (λ (x : Step Within). x.to) k.2 ∙ ap (λ (x : Bool). cond {A = Within} x lone (inside k.0.to)) t in
                    let p : IsPath (SlotCan sm) (inside k.0.to) line run = rw q at h.1 in
                    let d : SlotDone sm (last (inside k.0.to) run) = rw q at h.2 in
                    let u = unwrap line run k.0.to p d in
                    let sp = letters-sound sm sm.first (b ∷ line) (k.0 ∷ u.steps) (k.1, u.path) u.done in
                    let r = said-letters b line k.0 u.steps sp (λ y z. not-lone sm.apart_dash k.0.mark y t (lone-run sp.letters k.0 u.steps sp.taken sp.held sp.steps z).0) in
                    (r.0, r.1, r.2, ap (λ (x : Step Within). x ∷ run) k.2 ∙ ap (λ (x : List (Step Within)). wrap_first sm k.0 ∷ x) u.same ∙ r.3)
              ]
        ]

    lone-whole : (cs line : List ℕ) (ks : List (Step At)) (q : ℕ) → HoldsSaid sm (letters cs) → (k : Step At) → cs ≡ spell (k.mark ∷ marks_in ks) → sm.apart_dash ≡ true → sm.next sm.first 45 ≡ Some q → k ≡ letter_step 45 q →
        IsPath (CanStep sm) k.to line ks → IsDone sm (last k.to ks) → IsPath (SlotCan sm) lone line (map wrap ks) × SlotDone sm (last lone (map wrap ks))
    lone-whole cs [] [] q h k z y n e p d = absurd (h.2 y (z ∙ ap (λ (x : Step At). spell (x.mark ∷ [])) e))
    lone-whole cs [] (x ∷ ks) q h k z y n e p d = absurd p
    lone-whole cs (b ∷ line) [] q h k z y n e p d = absurd p
    lone-whole cs (b ∷ line) (x ∷ ks) q h k z y n e p d =
        let c : CanStep sm (record { point = q; begun = [] }) b x = rw (ap (λ (t : Step At). t.to) e) at p.0 in
        let r = wrap-path line ks x.to p.1 d in
        (((q, x, n, c, refl), r.0), r.1)

    letters-whole : (cs line : List ℕ) (ks : List (Step At)) → HoldsSaid sm (letters cs) → ks ≡ letters_run sm sm.first cs →
        IsPath (CanStep sm) (record { point = sm.first; begun = [] }) line ks → IsDone sm (last (record { point = sm.first; begun = [] }) ks) →
        IsWhole (plain_part sm) line (start_run sm ks)
    letters-whole cs [] [] h e p d =
        let z : [] ≡ cs = ap (λ (x : List (Step At)). spell (marks_in x)) e ∙ spell-letters cs sm.first h.0 h.1 in
        inr (elim (cases_Bool sm.apart_blank) [ inl t ↦ absurd (h.3 t (sym z)) | inr t ↦ t ], d.1)
    letters-whole cs [] (k ∷ ks) h e p d = absurd p
    letters-whole cs (b ∷ line) [] h e p d = absurd p
    letters-whole cs (b ∷ line) (k ∷ ks) h e p d =
        elim (cases_Bool (sm.apart_dash && k.mark == 48)) [
          | inl t ↦
              let q : (wrap_first sm k).to ≡ lone = ap (λ (x : Bool). cond {A = Within} x lone (inside k.to)) t in
              let ds = dash-step (record { point = sm.first; begun = [] }) b k p.0 (and_parts sm.apart_dash (k.mark == 48) t).1 in
              let r = lone-whole cs line ks ds.0 h k (sym (ap (λ (x : List (Step At)). spell (marks_in x)) e ∙ spell-letters cs sm.first h.0 h.1)) (and_parts sm.apart_dash (k.mark == 48) t).0 ds.1 ds.2 p.1 d in
              (inr (k, p.0, refl), rw q r.0, rw q r.1)
          | inr t ↦
              let q : (wrap_first sm k).to ≡ inside k.to = ap (λ (x : Bool). cond {A = Within} x lone (inside k.to)) t in
              let r = wrap-path line ks k.to p.1 d in
              (inr (k, p.0, refl), rw q r.0, rw q r.1)
        ]

    pub said-complete : (v : Said) → HoldsSaid sm v → IsWhole (plain_part sm) (said_text sm v) (said_run sm v)
    said-complete nothing h =
        elim h [
          | inl d ↦ subst (λ (x : Bool). IsWhole (plain_part sm) (cond x (45 ∷ []) []) (cond x (dashed ∷ []) [])) (sym d) (inl (d, refl, refl), tt, tt)
          | inr b ↦ subst (λ (x : Bool). IsWhole (plain_part sm) (cond x (45 ∷ []) []) (cond x (dashed ∷ []) [])) (sym (no-dash sm.dash sm.blank one b)) (inl b)
        ]
    said-complete (letters cs) h =
        let g = letters-complete sm cs sm.first h.0 h.1 in
        letters-whole cs (coded sm.word cs) (letters_run sm sm.first cs) h refl g.0 g.1

    pub start-marks : (ks : List (Step At)) → marks_in (start_run sm ks) ≡ marks_in ks
    start-marks [] = refl
    start-marks (k ∷ ks) = ap (λ (x : List ℕ). k.mark ∷ x) (wrap-marks ks)

    pub run-letters : (cs : List ℕ) → HoldsSaid sm (letters cs) → spell (marks_in (said_run sm (letters cs))) ≡ cs
    run-letters cs h = ap spell (start-marks (letters_run sm sm.first cs)) ∙ spell-letters cs sm.first h.0 h.1

    nothing-apart : (ks : List (Step At)) → dashed ∷ [] ≡ start_run sm ks → ⊥
    nothing-apart [] e = cc
    nothing-apart (k ∷ ks) e =
        let g : dashed ≡ wrap_first sm k = cc in
        let t : missing ≡ cond (sm.apart_dash && k.mark == 48) lone (inside k.to) = ap (λ (x : Step Within). x.to) g in
        never-missing (sm.apart_dash && k.mark == 48) k.to t

    nothing-letters : (cs : List ℕ) → HoldsSaid sm nothing → HoldsSaid sm (letters cs) → said_run sm nothing ≡ said_run sm (letters cs) → ⊥
    nothing-letters cs h g e =
        elim h [
          | inl d ↦ nothing-apart (letters_run sm sm.first cs) (ap (λ (x : Bool). cond {A = List (Step Within)} x (dashed ∷ []) []) (sym d) ∙ e)
          | inr b ↦
              let r : [] ≡ said_run sm (letters cs) = ap (λ (x : Bool). cond {A = List (Step Within)} x (dashed ∷ []) []) (sym (no-dash sm.dash sm.blank one b)) ∙ e in
              g.3 (blank_apart b) (sym (ap (λ (x : List (Step Within)). spell (marks_in x)) r ∙ run-letters cs g))
        ]

    pub said-apart : (v u : Said) → HoldsSaid sm v → HoldsSaid sm u → said_run sm v ≡ said_run sm u → v ≡ u
    said-apart nothing nothing h g e = refl
    said-apart nothing (letters ds) h g e = absurd (nothing-letters ds h g e)
    said-apart (letters cs) nothing h g e = absurd (nothing-letters cs g h (sym e))
    said-apart (letters cs) (letters ds) h g e = ap letters (sym (run-letters cs h) ∙ ap (λ (x : List (Step Within)). spell (marks_in x)) e ∙ run-letters ds g)
