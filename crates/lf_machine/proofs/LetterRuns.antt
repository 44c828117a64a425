-- The runs over the words of letters.
use Rattle.std.proofs.Common.{◌≡◌, ℕ, inl, inr, List, [], ◌∷◌, ◌++◌, Option, None, Some, true, refl, sym, ap, ◌∙◌, append_assoc}
use Rattle.lf_core.specs.Domain.{accepts}
use Rattle.lf_core.specs.AcceptsLaws.{accepts-step, accepts-first}
use Rattle.lf_escape.specs.Codes.{coded}
use Rattle.lf_machine.specs.Paths.{Step, IsPath, last}
use Rattle.lf_machine.specs.Letters.{At, inner, letter_step, CanStep, IsDone, AllTaken, word_run, letters_run}
use Rattle.lf_machine.specs.SlotMachine.{SlotMachine}
use Rattle.lf_machine.specs.Lists.{never-nil}

module _ (sm : SlotMachine) where
  -- what a run from a state reads: nothing, or the rest of a letter's word and then letters
  pub data Reads (s : At) (line : List ℕ) (run : List (Step At)) : Type 0 where
    nothing : s.begun ≡ [] → sm.ends s.point ≡ true → line ≡ [] → run ≡ [] → Reads s line run
    more : (c after b : ℕ) (rest cs : List ℕ) → sm.takes c ≡ true → sm.word c ≡ s.begun ++ b ∷ rest → sm.next s.point c ≡ Some after → AllTaken sm cs → accepts sm.next sm.ends after cs ≡ true → line ≡ (b ∷ rest) ++ coded sm.word cs → run ≡ word_run sm s.point after c s.begun (b ∷ rest) ++ letters_run sm after cs → Reads s line run

  -- what is read between words are letters
  pub record Spells (q : ℕ) (line : List ℕ) (run : List (Step At)) : Type 0 where
    pub letters : List ℕ
    pub taken : AllTaken sm letters
    pub held : accepts sm.next sm.ends q letters ≡ true
    pub text : line ≡ coded sm.word letters
    pub steps : run ≡ letters_run sm q letters

  pub letters_run-first : (q c after b : ℕ) (rest cs : List ℕ) → sm.next q c ≡ Some after → sm.word c ≡ b ∷ rest → letters_run sm q (c ∷ cs) ≡ word_run sm q after c [] (b ∷ rest) ++ letters_run sm after cs
  letters_run-first q c after b rest cs n w =
      ap (λ (o : Option ℕ). elim o [ None ↦ [] | Some t ↦ (word_run sm) q t c [] (sm.word c) ++ letters_run sm t cs ]) n
      ∙ ap (λ (x : List ℕ). word_run sm q after c [] x ++ letters_run sm after cs) w

  reads-letters : (q : ℕ) (line : List ℕ) (run : List (Step At)) → Reads (record { point = q; begun = [] }) line run → Spells q line run
  reads-letters q line run (nothing b e l r) = record { letters = []; taken = tt; held = e; text = l; steps = r }
  reads-letters q line run (more c after b rest cs t w n all held l r) = record {
    letters = c ∷ cs;
    taken = (t, all);
    held = accepts-step sm.next sm.ends q after c cs n ∙ held;
    text = l ∙ ap (λ (x : List ℕ). x ++ coded sm.word cs) (sym w);
    steps = r ∙ sym (letters_run-first q c after b rest cs n w);
  }

  reads-inner : (s : At) (b : ℕ) (line : List ℕ) (run : List (Step At)) (m : Step At) → m ≡ inner s.point (s.begun ++ b ∷ []) → Reads m.to line run → Reads s (b ∷ line) (m ∷ run)
  reads-inner s b line run m e (nothing n h l r) = absurd (never-nil s.begun b (ap (λ (k : Step At). k.to.begun) (sym e) ∙ n))
  reads-inner s b line run m e (more c after d rest cs t w n all held l r) =
      let bq : m.to.begun ≡ s.begun ++ b ∷ [] = ap (λ (k : Step At). k.to.begun) e in
      let pq : m.to.point ≡ s.point = ap (λ (k : Step At). k.to.point) e in
      let w2 : sm.word c ≡ s.begun ++ b ∷ d ∷ rest = w ∙ ap (λ (x : List ℕ). x ++ d ∷ rest) bq ∙ append_assoc s.begun (b ∷ []) (d ∷ rest) in
      let n2 : sm.next s.point c ≡ Some after = ap (λ (q : ℕ). sm.next q c) (sym pq) ∙ n in
      let r3 : run ≡ word_run sm s.point after c (s.begun ++ b ∷ []) (d ∷ rest) ++ letters_run sm after cs =
      r ∙ ap (λ (q : ℕ). word_run sm q after c m.to.begun (d ∷ rest) ++ letters_run sm after cs) pq ∙ ap (λ (x : List ℕ). word_run sm s.point after c x (d ∷ rest) ++ letters_run sm after cs) bq in
      let r2 : m ∷ run ≡ word_run sm s.point after c s.begun (b ∷ d ∷ rest) ++ letters_run sm after cs =
      ap (λ (k : Step At). k ∷ run) e ∙ ap (λ (x : List (Step At)). inner s.point (s.begun ++ b ∷ []) ∷ x) r3 in
      more c after b (d ∷ rest) cs t w2 n2 all held (ap (λ (x : List ℕ). b ∷ x) l) r2

  reads-last : (s : At) (b : ℕ) (line : List ℕ) (run : List (Step At)) (m : Step At) (c q : ℕ) → sm.takes c ≡ true → sm.word c ≡ s.begun ++ b ∷ [] → sm.next s.point c ≡ Some q → m ≡ letter_step c q → Reads m.to line run → Reads s (b ∷ line) (m ∷ run)
  reads-last s b line run m c q t w n e h =
      let f : Spells q line run = reads-letters q line run (rw e at h) in
      more c q b [] f.letters t w n f.taken f.held (ap (λ (x : List ℕ). b ∷ x) f.text) (ap (λ (k : Step At). k ∷ run) e ∙ ap (λ (x : List (Step At)). letter_step c q ∷ x) f.steps)

  pub reads : (line : List ℕ) (run : List (Step At)) (s : At) → IsPath (CanStep sm) s line run → IsDone sm (last s run) → Reads s line run
  reads [] [] s p d = nothing d.0 d.1 refl refl
  reads [] (m ∷ run) s p d = absurd p
  reads (b ∷ line) [] s p d = absurd p
  reads (b ∷ line) (m ∷ run) s p d =
      elim p.0 [
        | inl i ↦ reads-inner s b line run m i.5 (reads line run m.to p.1 d)
        | inr l ↦ reads-last s b line run m l.0 l.1 l.2 l.3 l.4 l.5 (reads line run m.to p.1 d)
      ]

  -- each whole run between words reads letters that the domain holds
  pub letters-sound : (q : ℕ) (line : List ℕ) (run : List (Step At)) → IsPath (CanStep sm) (record { point = q; begun = [] }) line run → IsDone sm (last (record { point = q; begun = [] }) run) → Spells q line run
  letters-sound q line run p d = reads-letters q line run (reads line run (record { point = q; begun = [] }) p d)

  -- a word's bytes lead to the point after its letter
  word-path : (q after c : ℕ) (rest read line : List ℕ) (b : ℕ) (run : List (Step At)) → sm.takes c ≡ true → sm.next q c ≡ Some after → sm.word c ≡ read ++ b ∷ rest →
      IsPath (CanStep sm) (record { point = after; begun = [] }) line run → IsDone sm (last (record { point = after; begun = [] }) run) →
      IsPath (CanStep sm) (record { point = q; begun = read }) ((b ∷ rest) ++ line) (word_run sm q after c read (b ∷ rest) ++ run) × IsDone sm (last (record { point = q; begun = read }) (word_run sm q after c read (b ∷ rest) ++ run))
  word-path q after c [] read line b run t n w p d = ((inr (c, after, t, w, n, refl), p), d)
  word-path q after c (x ∷ rest) read line b run t n w p d =
      let w2 : sm.word c ≡ (read ++ b ∷ []) ++ x ∷ rest = w ∙ sym (append_assoc read (b ∷ []) (x ∷ rest)) in
      let k = word-path q after c rest (read ++ b ∷ []) line x run t n w2 p d in
      ((inl (c, x, rest, t, w, refl), k.0), k.1)

  -- the letters of a held text have a whole run over their words
  pub letters-complete : (cs : List ℕ) (q : ℕ) → AllTaken sm cs → accepts sm.next sm.ends q cs ≡ true → IsPath (CanStep sm) (record { point = q; begun = [] }) (coded sm.word cs) (letters_run sm q cs) × IsDone sm (last (record { point = q; begun = [] }) (letters_run sm q cs))
  letters-complete [] q t a = (tt, (refl, a))
  letters-complete (c ∷ cs) q t a =
      let f = accepts-first sm.next sm.ends q c cs a in
      let w = sm.least c t.0 in
      let k = letters-complete cs f.0 t.1 f.2 in
      let g = word-path q f.0 c w.1 [] (coded sm.word cs) w.0 (letters_run sm f.0 cs) t.0 f.1 w.2 k.0 k.1 in
      rw (letters_run-first q c f.0 w.0 w.1 cs f.1 w.2, w.2) g
