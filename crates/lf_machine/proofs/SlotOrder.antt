-- Of two runs of a slot with quotes the lesser says the lesser.
use Rattle.std.proofs.Common.{◌≡◌, ℕ, ◌<◌, ◌⊎◌, inl, inr, List, [], ◌∷◌, ◌++◌, map, Bool, true, false, cond, refl, sym, ap, ◌∙◌, arith, append_assoc}
use Rattle.lf_core.specs.Domain.{accepts}
use Rattle.lf_core.specs.AcceptsLaws.{accepts-first}
use Rattle.lf_escape.specs.Codes.{coded}
use Rattle.lf_machine.specs.Paths.{Step, Before}
use Rattle.lf_machine.specs.Letters.{At, AllTaken, word_run, letters_run}
use Rattle.lf_machine.proofs.LetterRuns.{letters_run-first}
use Rattle.lf_machine.proofs.LetterOrder.{letters-order}
use Rattle.lf_machine.specs.RecordOrder.{IsTextLess}
use Rattle.lf_machine.specs.Unquoted.{Said, nothing, letters, Within, inside, missing, lone, opened, closed, left, wrap}
use Rattle.lf_machine.specs.Quoted.{opening, closing, HoldsQuoted, quoted_text, quoted_run}
use Rattle.lf_machine.specs.SlotMachine.{SlotMachine}
use Rattle.lf_machine.proofs.Joins.{step-same, AllLow, AllHigh}

-- absence prints a dash or nothing
pub no-dash : (dash blank : Bool) → (dash ≡ true → blank ≡ true → ⊥) → blank ≡ true → dash ≡ false
no-dash true blank one h = absurd (one refl h)
no-dash false blank one h = refl

-- no run is before itself
pub never-before : {T : Type 0} (r : List (Step T)) → Before r r → ⊥
never-before [] h = h
never-before (m ∷ r) h = elim h [ inl k ↦ omega (arith, k) | inr k ↦ never-before r k.1 ]

-- an empty text is less than every other
pub nil-less : (ds : List ℕ) → (ds ≡ [] → ⊥) → IsTextLess [] ds
nil-less [] h = h refl
nil-less (d ∷ ds) h = tt

-- what a slot says is less: by its text, and where these are one, absence is less
abbrev pub SaidLess : Bool → Said → Said → Type 0
SaidLess dash nothing nothing = ⊥
SaidLess dash nothing (letters ds) = IsTextLess (cond dash (45 ∷ []) []) ds ⊎ (cond dash (45 ∷ []) [] ≡ ds)
SaidLess dash (letters cs) nothing = IsTextLess cs (cond dash (45 ∷ []) [])
SaidLess dash (letters cs) (letters ds) = IsTextLess cs ds

abbrev pub inside-of : At → Within → At
inside-of d (inside s) = s
inside-of d missing = d
inside-of d lone = d
inside-of d opened = d
inside-of d closed = d
inside-of d (left rest) = d

wrap-same : (k l : Step At) → wrap k ≡ wrap l → k ≡ l
wrap-same k l e = step-same k l (ap (λ (x : Step Within). x.mark) e) (ap (λ (x : Step Within). inside-of k.to x.to) e)

-- the order of wrapped runs is that of the runs
pub before-wrapped : (ks ls : List (Step At)) → Before (map wrap ks) (map wrap ls) → Before ks ls
before-wrapped [] [] h = absurd h
before-wrapped [] (l ∷ ls) h = tt
before-wrapped (k ∷ ks) [] h = absurd h
before-wrapped (k ∷ ks) (l ∷ ls) h = elim h [ inl m ↦ inl m | inr e ↦ inr (wrap-same k l e.0, before-wrapped ks ls e.1) ]

closing-wrap : (k : Step At) → closing ≡ wrap k → ⊥
closing-wrap k e = let t : closed ≡ inside k.to = ap (λ (x : Step Within). x.to) e in cc

-- the same with a closing quote after both
before-closed : (ks ls : List (Step At)) → AllHigh 2 ks → Before (map wrap ks ++ closing ∷ []) (map wrap ls ++ closing ∷ []) → Before ks ls
before-closed [] [] a h = elim h [ inl m ↦ absurd (omega (arith, m)) | inr e ↦ absurd e.1 ]
before-closed [] (l ∷ ls) a h = tt
before-closed (k ∷ ks) [] a h = elim h [ inl m ↦ absurd (omega (arith, m, a.0)) | inr e ↦ absurd (closing-wrap k (sym e.0)) ]
before-closed (k ∷ ks) (l ∷ ls) a h = elim h [ inl m ↦ inl m | inr e ↦ inr (wrap-same k l e.0, before-closed ks ls a.1 e.1) ]

module _ (sm : SlotMachine) where
  high-word : (rest : List ℕ) (q after c b : ℕ) (read : List ℕ) (run : List (Step At)) → AllHigh 2 run → AllHigh 2 (word_run sm q after c read (b ∷ rest) ++ run)
  high-word [] q after c b read run h = (omega arith, h)
  high-word (x ∷ rest) q after c b read run h = (omega arith, high-word rest q after c x (read ++ b ∷ []) run h)

  pub letters-high : (cs : List ℕ) (q : ℕ) → AllTaken sm cs → accepts sm.next sm.ends q cs ≡ true → AllHigh 2 (letters_run sm q cs)
  letters-high [] q t a = tt
  letters-high (c ∷ cs) q t a =
      let f = accepts-first sm.next sm.ends q c cs a in
      let w = sm.least c t.0 in
      rw (letters_run-first sm q c f.0 w.0 w.1 cs f.1 w.2) (high-word w.1 q f.0 c w.0 [] (letters_run sm f.0 cs) (letters-high cs f.0 t.1 f.2))

  module _ (bytes : (c : ℕ) → sm.takes c ≡ true → c < 256) where
    low-word : (rest : List ℕ) (q after c b : ℕ) (read : List ℕ) (run : List (Step At)) → c < 256 → AllLow 259 run → AllLow 259 (word_run sm q after c read (b ∷ rest) ++ run)
    low-word [] q after c b read run l h = (omega arith, h)
    low-word (x ∷ rest) q after c b read run l h = (omega arith, low-word rest q after c x (read ++ b ∷ []) run l h)

    pub letters-low : (cs : List ℕ) (q : ℕ) → AllTaken sm cs → accepts sm.next sm.ends q cs ≡ true → AllLow 259 (letters_run sm q cs)
    letters-low [] q t a = tt
    letters-low (c ∷ cs) q t a =
        let f = accepts-first sm.next sm.ends q c cs a in
        let w = sm.least c t.0 in
        rw (letters_run-first sm q c f.0 w.0 w.1 cs f.1 w.2) (low-word w.1 q f.0 c w.0 [] (letters_run sm f.0 cs) (bytes c t.0) (letters-low cs f.0 t.1 f.2))

  pub low-wrapped : (ks : List (Step At)) → AllLow 259 ks → AllLow 259 (map wrap ks)
  low-wrapped [] h = tt
  low-wrapped (k ∷ ks) h = (h.0, low-wrapped ks h.1)

  pub low-closed : (ks : List (Step At)) → AllLow 259 ks → AllLow 259 (map wrap ks ++ closing ∷ [])
  low-closed [] h = (omega arith, tt)
  low-closed (k ∷ ks) h = (h.0, low-closed ks h.1)

  quote-not : ◌≡◌ {A = ℕ} 34 45 → ⊥
  quote-not e = omega arith

  quote-dash : (xs ys : List ℕ) → 34 ∷ xs ≡ 45 ∷ ys → ⊥
  quote-dash xs ys e = let t : ◌≡◌ {A = ℕ} 34 45 = cc in quote-not t

  module _
      (prefix_free : (a b : ℕ) (rest : List ℕ) → sm.takes a ≡ true → sm.takes b ≡ true → sm.word b ≡ sm.word a ++ rest → rest ≡ [])
      (one : sm.dash ≡ true → sm.blank ≡ true → ⊥) (blank_apart : sm.blank ≡ true → sm.apart_blank ≡ true) where
    closes : (ks : List (Step At)) → AllHigh 2 ks → Before (map wrap ks ++ closing ∷ []) (closing ∷ []) → ⊥
    closes [] a h = never-before (closing ∷ []) h
    closes (k ∷ ks) a h = elim h [ inl m ↦ omega (arith, m, a.0) | inr m ↦ closing-wrap k (sym m.0) ]

    closed-first : (ks : List (Step At)) → AllHigh 2 ks → Before (opening ∷ (map wrap ks ++ closing ∷ [])) (opening ∷ closing ∷ []) → ⊥
    closed-first ks a h = elim h [ inl k ↦ omega (arith, k) | inr k ↦ (closes ks a k.1) ]

    pub quoted-order : (v u : Said) (x y : List ℕ) → HoldsQuoted sm v → HoldsQuoted sm u → quoted_text sm v ++ x ≡ quoted_text sm u ++ y → Before (quoted_run sm v) (quoted_run sm u) → SaidLess sm.dash v u
    quoted-order nothing nothing x y h g e b = never-before (quoted_run sm nothing) b
    quoted-order nothing (letters ds) x y h g e b =
        elim h [
          | inl d ↦ absurd (quote-dash ((coded sm.word ds ++ 34 ∷ []) ++ y) x (sym (rw d at e)))
          | inr z ↦ let n = no-dash sm.dash sm.blank one z in rw n (inl (nil-less ds (g.3 (blank_apart z))))
        ]
    quoted-order (letters cs) nothing x y h g e b =
        elim g [
          | inl d ↦ absurd (quote-dash ((coded sm.word cs ++ 34 ∷ []) ++ x) y (rw d at e))
          | inr z ↦
              let n = no-dash sm.dash sm.blank one z in
              let k = rw n at b in
              absurd (closed-first (letters_run sm sm.first cs) (letters-high cs sm.first h.0 h.1) k)
        ]
    quoted-order (letters cs) (letters ds) x y h g e b =
        let c : Before (map wrap (letters_run sm sm.first cs) ++ closing ∷ []) (map wrap (letters_run sm sm.first ds) ++ closing ∷ []) =
        elim b [ inl k ↦ absurd (omega (arith, k)) | inr k ↦ k.1 ] in
        let k = before-closed (letters_run sm sm.first cs) (letters_run sm sm.first ds) (letters-high cs sm.first h.0 h.1) c in
        let t : (coded sm.word cs ++ 34 ∷ []) ++ x ≡ (coded sm.word ds ++ 34 ∷ []) ++ y = cc in
        let f : coded sm.word cs ++ 34 ∷ x ≡ coded sm.word ds ++ 34 ∷ y = sym (append_assoc (coded sm.word cs) (34 ∷ []) x) ∙ t ∙ append_assoc (coded sm.word ds) (34 ∷ []) y in
        letters-order sm prefix_free cs ds sm.first sm.first (34 ∷ x) (34 ∷ y) h.0 g.0 h.1 g.1 f k
