-- Of two runs of a slot without quotes the lesser says the lesser.
use Rattle.std.proofs.Common.{◌≡◌, ℕ, ◌⊎◌, inl, inr, List, [], ◌∷◌, ◌++◌, Bool, true, false, cond, ◌==◌, ◌&&◌, refl, sym, ap, ◌∙◌, arith}
use Rattle.std.proofs.lemmas.Bool.{cases_Bool}
use Rattle.lf_escape.specs.Codes.{coded}
use Rattle.lf_machine.specs.Paths.{Step, IsPath, Before}
use Rattle.lf_machine.specs.Letters.{At, letter_step, CanStep, AllTaken, letters_run}
use Rattle.lf_machine.proofs.LetterRuns.{letters-complete}
use Rattle.lf_machine.proofs.LetterOrder.{letters-order}
use Rattle.lf_machine.specs.RecordOrder.{IsTextLess}
use Rattle.lf_machine.specs.Unquoted.{Said, nothing, letters, Within, inside, lone, wrap_first, start_run, dashed, HoldsSaid, said_text, said_run, marks_in}
use Rattle.lf_machine.proofs.PlainRuns.{spell, spell-letters, dash-step}
use Rattle.lf_machine.proofs.SlotOrder.{SaidLess, no-dash, never-before, nil-less, inside-of, before-wrapped, letters-high}
use Rattle.lf_machine.specs.SlotMachine.{SlotMachine}
use Rattle.lf_machine.proofs.Joins.{step-same, AllHigh}
use Rattle.lf_core.specs.Choices.{unwrap}

-- a lone dash is before every other text that begins with a dash
dash-less : (c : ℕ) (ds : List ℕ) → c ≡ 45 → IsTextLess (45 ∷ []) (c ∷ ds) ⊎ (45 ∷ [] ≡ c ∷ ds)
dash-less c [] e = inr cc
dash-less c (d ∷ ds) e = inl (inr (sym e, tt))

module _ (sm : SlotMachine)
    (prefix_free : (a b : ℕ) (rest : List ℕ) → sm.takes a ≡ true → sm.takes b ≡ true → sm.word b ≡ sm.word a ++ rest → rest ≡ [])
    (dash_alone : (c : ℕ) (rest : List ℕ) → sm.takes c ≡ true → sm.word c ≡ 45 ∷ rest → c ≡ 45)
    (one : sm.dash ≡ true → sm.blank ≡ true → ⊥) (blank_apart : sm.blank ≡ true → sm.apart_blank ≡ true) where
  abbrev from : At
  from = record { point = sm.first; begun = [] }

  both-dashes : (b d : ℕ) (k l : Step At) → CanStep sm from b k → CanStep sm from d l → (k.mark == 48) ≡ true → k.mark ≡ l.mark → k ≡ l
  both-dashes b d k l p q h e =
      let m : (l.mark == 48) ≡ true = ap (λ (n : ℕ). n == 48) (sym e) ∙ h in
      let x = dash-step sm from b k p h in
      let y = dash-step sm from d l q m in
      let z : x.0 ≡ y.0 = unwrap x.0 y.0 (sym x.1 ∙ y.1) in
      x.2 ∙ ap (letter_step 45) z ∙ sym y.2

  to-inside : (a b : Bool) (s : At) → b ≡ false → cond {A = Within} (a && b) lone (inside s) ≡ inside s
  to-inside true b s h = ap (λ (x : Bool). cond {A = Within} x lone (inside s)) h
  to-inside false b s h = refl

  first-same : (b d : ℕ) (k l : Step At) → CanStep sm from b k → CanStep sm from d l → wrap_first sm k ≡ wrap_first sm l → k ≡ l
  first-same b d k l p q e =
      let m : k.mark ≡ l.mark = ap (λ (x : Step Within). x.mark) e in
      elim (cases_Bool (k.mark == 48)) [
        | inl t ↦ both-dashes b d k l p q t m
        | inr t ↦
            let u : (l.mark == 48) ≡ false = ap (λ (n : ℕ). n == 48) (sym m) ∙ t in
            let f : inside k.to ≡ inside l.to = sym (to-inside sm.apart_dash (k.mark == 48) k.to t) ∙ ap (λ (x : Step Within). x.to) e ∙ to-inside sm.apart_dash (l.mark == 48) l.to u in
            step-same k l m (ap (inside-of k.to) f)
      ]

  before-start : (la lb : List ℕ) (ks ls : List (Step At)) → IsPath (CanStep sm) from la ks → IsPath (CanStep sm) from lb ls → Before (start_run sm ks) (start_run sm ls) → Before ks ls
  before-start la lb [] [] p q h = absurd h
  before-start la lb [] (l ∷ ls) p q h = tt
  before-start la lb (k ∷ ks) [] p q h = absurd h
  before-start [] lb (k ∷ ks) (l ∷ ls) p q h = absurd p
  before-start (b ∷ la) [] (k ∷ ks) (l ∷ ls) p q h = absurd q
  before-start (b ∷ la) (d ∷ lb) (k ∷ ks) (l ∷ ls) p q h = elim h [ inl m ↦ inl m | inr e ↦ inr (first-same b d k l p.0 q.0 e.0, before-wrapped ks ls e.1) ]

  start-dash : (ks : List (Step At)) → AllHigh 2 ks → Before (start_run sm ks) (dashed ∷ []) → ks ≡ []
  start-dash [] a h = refl
  start-dash (k ∷ ks) a h =
      elim h [
        | inl m ↦ absurd (omega (arith, m, a.0))
        | inr e ↦
            let m : k.mark ≡ 1 = ap (λ (x : Step Within). x.mark) e.0 in
            absurd (omega (arith, m, a.0))
      ]

  start-nil : (ks : List (Step At)) → Before (start_run sm ks) [] → ⊥
  start-nil [] h = h
  start-nil (k ∷ ks) h = h

  dash-first : (ds x y : List ℕ) → AllTaken sm ds → 45 ∷ x ≡ coded sm.word ds ++ y → Before (dashed ∷ []) (start_run sm (letters_run sm sm.first ds)) → IsTextLess (45 ∷ []) ds ⊎ (45 ∷ [] ≡ ds)
  dash-first [] x y t e b = absurd b
  dash-first (c ∷ ds) x y t e b =
      let w = sm.least c t.0 in
      let f : 45 ∷ x ≡ w.0 ∷ ((w.1 ++ coded sm.word ds) ++ y) = e ∙ ap (λ (z : List ℕ). (z ++ coded sm.word ds) ++ y) w.2 in
      let g : 45 ≡ w.0 = cc in
      let k : sm.word c ≡ 45 ∷ w.1 = w.2 ∙ ap (λ (n : ℕ). n ∷ w.1) (sym g) in
      dash-less c ds (dash_alone c w.1 t.0 k)

  pub plain-order : (v u : Said) (x y : List ℕ) → HoldsSaid sm v → HoldsSaid sm u → said_text sm v ++ x ≡ said_text sm u ++ y → Before (said_run sm v) (said_run sm u) → SaidLess sm.dash v u
  plain-order nothing nothing x y h g e b = never-before (said_run sm nothing) b
  plain-order nothing (letters ds) x y h g e b =
      elim h [
        | inl d ↦ rw d (dash-first ds x y g.0 (rw d at e) (rw d at b))
        | inr z ↦ let n = no-dash sm.dash sm.blank one z in rw n (inl (nil-less ds (g.3 (blank_apart z))))
      ]
  plain-order (letters cs) nothing x y h g e b =
      elim g [
        | inl d ↦
            let k = start-dash (letters_run sm sm.first cs) (letters-high sm cs sm.first h.0 h.1) (rw d at b) in
            let z : cs ≡ [] = sym (spell-letters sm cs sm.first h.0 h.1) ∙ ap (λ (r : List (Step At)). spell (marks_in r)) k in
            rw (z, d) tt
        | inr z ↦ let n = no-dash sm.dash sm.blank one z in absurd (start-nil (letters_run sm sm.first cs) (rw n at b))
      ]
  plain-order (letters cs) (letters ds) x y h g e b =
      let p = letters-complete sm cs sm.first h.0 h.1 in
      let q = letters-complete sm ds sm.first g.0 g.1 in
      let k = before-start (coded sm.word cs) (coded sm.word ds) (letters_run sm sm.first cs) (letters_run sm sm.first ds) p.0 q.0 b in
      letters-order sm prefix_free cs ds sm.first sm.first x y h.0 g.0 h.1 g.1 e k
