-- A step of the threads says what they read, and good threads can be read to an end: once, for every grammar.
use Rattle.std.proofs.Common.{◌≡◌, ℕ, zero, suc, not, ◌⊎◌, inl, inr, ◌&&◌, ◌||◌, Bool, true, false, cond, Option, Some, None, List, [], ◌∷◌, ◌++◌, refl, sym, ap, subst, ◌∙◌, append_assoc, append-nil}
use Rattle.lf_syntax.specs.declared.leaf.Leaf.{Leaf}
use Rattle.lf_syntax.specs.Leaf.{Holds, leaf_after, leaf_ends}
use Rattle.lf_syntax.specs.LeafLaws.{both, first_of_both, second_of_both, LeafLeft, LeafSound, leaf-stop, leaf-stops, leaf-take, leaf-taken, leaf-lives, leaf-keeps}
use Rattle.lf_syntax.specs.Grammar.{Grammar, leaf, sequence, choice, star, again, joined, Each, Spells, Nested, ends, sound_at, is_sound, is_rule}
use Rattle.lf_syntax.specs.Threads.{Part, Thread, part, Stacked, Threaded, AnyThread, leaf_threads, step, step_again, stack_step, thread_step, threads_step, stack_ends, threads_end, start, IsSoundStack, AreSound, IsGood}

empty_front : (u v : List ℕ) → [] ≡ u ++ v → u ≡ []
empty_front [] v e = refl
empty_front (x ∷ u) v e = cc

empty_back : (u v : List ℕ) → [] ≡ u ++ v → v ≡ []
empty_back [] v e = sym e
empty_back (x ∷ u) v e = cc

or_first : (s t : Bool) → s ≡ true → (s || t) ≡ true
or_first true t h = refl
or_first false t h = cc

or_second : (s t : Bool) → t ≡ true → (s || t) ≡ true
or_second true t h = refl
or_second false t h = h

or_cases : (s t : Bool) → (s || t) ≡ true → (s ≡ true) ⊎ (t ≡ true)
or_cases true t h = inl refl
or_cases false t h = inr h

not_true : (t : Bool) → not t ≡ true → t ≡ true → ⊥
not_true true h k = cc
not_true false h k = cc

-- THE END: the empty text is spelled exactly where the grammar ends
module _ (X : List ℕ → Type 0) (none : X [] → ⊥) where
  empty_of : (g : Grammar) (u : List ℕ) → u ≡ [] → Spells X g u → Spells X g []
  empty_of g u e h = subst (λ (x : List ℕ). Spells X g x) e h

  pub stop : (g : Grammar) → Spells X g [] → ends g ≡ true
  stop (leaf l) h = leaf-stop l h
  stop (sequence a c) h =
      both (ends a) (ends c)
      (stop a (empty_of a h.0 (empty_front h.0 h.1 h.2) h.3))
      (stop c (empty_of c h.1 (empty_back h.0 h.1 h.2) h.4))
  stop (choice a c) (inl h) = or_first (ends a) (ends c) (stop a h)
  stop (choice a c) (inr h) = or_second (ends a) (ends c) (stop c h)
  stop (star a) h = refl
  stop again h = absurd (none h)

  pub stops : (g : Grammar) → ends g ≡ true → Spells X g []
  stops (leaf l) h = leaf-stops l h
  stops (sequence a c) h = ([], [], refl, stops a (first_of_both (ends a) (ends c) h), stops c (second_of_both (ends a) (ends c) h))
  stops (choice a c) h = elim (or_cases (ends a) (ends c) h) [ inl k ↦ inl (stops a k) | inr k ↦ inr (stops c k) ]
  stops (star a) h = ([], refl, tt)
  stops again h = cc

pub lives : (X : List ℕ → Type 0) (g : Grammar) → is_sound g ≡ true → (w : List ℕ) × Spells X g w
lives X (leaf l) s = leaf-lives l s
lives X (sequence a c) s =
    let x = lives X a (first_of_both (is_sound a) (is_sound c) s) in
    let y = lives X c (second_of_both (is_sound a) (is_sound c) s) in
    (x.0 ++ y.0, (x.0, y.0, refl, x.1, y.1))
lives X (choice a c) s = let x = lives X a (first_of_both (is_sound a) (sound_at true c) s) in (x.0, inl x.1)
lives X (star a) s = ([], ([], refl, tt))
lives X again s = cc

module _ (rule : Grammar) where
  any-first : (ts us : List Thread) (w : List ℕ) → AnyThread rule ts w → AnyThread rule (ts ++ us) w
  any-first [] us w h = absurd h
  any-first (t ∷ ts) us w (inl h) = inl h
  any-first (t ∷ ts) us w (inr h) = inr (any-first ts us w h)

  any-second : (ts us : List Thread) (w : List ℕ) → AnyThread rule us w → AnyThread rule (ts ++ us) w
  any-second [] us w h = h
  any-second (t ∷ ts) us w h = inr (any-second ts us w h)

  any-split : (ts us : List Thread) (w : List ℕ) → AnyThread rule (ts ++ us) w → AnyThread rule ts w ⊎ AnyThread rule us w
  any-split [] us w h = inr h
  any-split (t ∷ ts) us w (inl h) = inl (inl h)
  any-split (t ∷ ts) us w (inr h) = elim (any-split ts us w h) [ inl k ↦ inl (inr k) | inr k ↦ inr k ]

  any-when : (t : Bool) (us : List Thread) (w : List ℕ) → t ≡ true → AnyThread rule us w → AnyThread rule (cond t us []) w
  any-when true us w e h = h
  any-when false us w e h = cc

  any-only : (t : Bool) (us : List Thread) (w : List ℕ) → AnyThread rule (cond t us []) w → (t ≡ true) × AnyThread rule us w
  any-only true us w h = (refl, h)
  any-only false us w h = absurd h

  leaf-in : (o : Option Leaf) (k : List Part) (u v : List ℕ) → LeafLeft o u → Stacked rule k v → AnyThread rule (leaf_threads o k) (u ++ v)
  leaf-in None k u v h s = absurd h
  leaf-in (Some l) k u v h s = inl (u, v, refl, h, s)

  leaf-out : (o : Option Leaf) (k : List Part) (w : List ℕ) → AnyThread rule (leaf_threads o k) w → (u : List ℕ) × (v : List ℕ) × (w ≡ u ++ v) × LeafLeft o u × Stacked rule k v
  leaf-out None k w h = absurd h
  leaf-out (Some l) k w (inl h) = h
  leaf-out (Some l) k w (inr h) = absurd h

  any-same : (ts : List Thread) (w x : List ℕ) → w ≡ x → AnyThread rule ts w → AnyThread rule ts x
  any-same ts w x e h = subst (λ (v : List ℕ). AnyThread rule ts v) e h

  -- what a text that begins with the byte, of one language and then of the parts, leaves to the threads
  abbrev Takes : ℕ → (List ℕ → Type 0) → (List Part → List Thread) → Type 0
  Takes b X A = (k : List Part) (u v : List ℕ) → X (b ∷ u) → Stacked rule k v → AnyThread rule (A k) (u ++ v)

  abbrev Taken : ℕ → (List ℕ → Type 0) → (List Part → List Thread) → Type 0
  Taken b X A = (k : List Part) (w : List ℕ) → AnyThread rule (A k) w → (u : List ℕ) × (v : List ℕ) × (w ≡ u ++ v) × X (b ∷ u) × Stacked rule k v

  module _ (b d : ℕ) (A : List Part → List Thread) (none : Nested rule d [] → ⊥) where
    begun : (g : Grammar) (x : ℕ) (u : List ℕ) → x ≡ b → Spells (Nested rule d) g (x ∷ u) → Spells (Nested rule d) g (b ∷ u)
    begun g x u e h = subst (λ (y : ℕ). Spells (Nested rule d) g (y ∷ u)) e h

    regroup : (x y u v : List ℕ) → x ++ y ≡ u → x ++ (y ++ v) ≡ u ++ v
    regroup x y u v e = sym (append_assoc x y v) ∙ ap (λ (z : List ℕ). z ++ v) e

    sequence-take : (a c : Grammar) → Takes b (Spells (Nested rule d) a) (λ k. step A d a k b) → Takes b (Spells (Nested rule d) c) (λ k. step A d c k b) → (k : List Part) (u v x y : List ℕ) → b ∷ u ≡ x ++ y → Spells (Nested rule d) a x → Spells (Nested rule d) c y → Stacked rule k v → AnyThread rule (step A d (sequence a c) k b) (u ++ v)
    sequence-take a c first second k u v [] y e h m s =
        any-second (step A d a (part d c ∷ k) b) (cond (ends a) (step A d c k b) []) (u ++ v)
        (any-when (ends a) (step A d c k b) (u ++ v) (stop (Nested rule d) none a h)
        (second k u v (subst (λ (x : List ℕ). Spells (Nested rule d) c x) (sym e) m) s))
    sequence-take a c first second k u v (z ∷ x) y e h m s =
        let q : z ≡ b = cc in
        let r : x ++ y ≡ u = cc in
        any-first (step A d a (part d c ∷ k) b) (cond (ends a) (step A d c k b) []) (u ++ v)
        (any-same (step A d a (part d c ∷ k) b) (x ++ (y ++ v)) (u ++ v) (regroup x y u v r)
        (first (part d c ∷ k) x (y ++ v) (begun a z x q h) (y, v, refl, m, s)))

    -- one more of a star, from its first part that isn't empty
    star-take : (a : Grammar) → Takes b (Spells (Nested rule d) a) (λ k. step A d a k b) → (k : List Part) (u v : List ℕ) (ws : List (List ℕ)) → b ∷ u ≡ joined ws → Each (Spells (Nested rule d) a) ws → Stacked rule k v → AnyThread rule (step A d (star a) k b) (u ++ v)
    star-take a first k u v [] e h s = cc
    star-take a first k u v ([] ∷ ws) e h s = star-take a first k u v ws e h.1 s
    star-take a first k u v ((z ∷ x) ∷ ws) e h s =
        let q : z ≡ b = cc in
        let r : x ++ joined ws ≡ u = cc in
        any-same (step A d a (part d (star a) ∷ k) b) (x ++ (joined ws ++ v)) (u ++ v) (regroup x (joined ws) u v r)
        (first (part d (star a) ∷ k) x (joined ws ++ v) (begun a z x q h.0) (joined ws, v, refl, (ws, refl, h.1), s))

    -- THE STEP: a text that begins with the byte is spelled exactly where its rest is left to the threads
    pub take : Takes b (Nested rule d) A → (g : Grammar) → Takes b (Spells (Nested rule d) g) (λ k. step A d g k b)
    take t (leaf l) k u v h s = leaf-in (leaf_after l b) k u v (leaf-take l b u h) s
    take t (sequence a c) k u v h s = sequence-take a c (take t a) (take t c) k u v h.0 h.1 h.2 h.3 h.4 s
    take t (choice a c) k u v (inl h) s = any-first (step A d a k b) (step A d c k b) (u ++ v) (take t a k u v h s)
    take t (choice a c) k u v (inr h) s = any-second (step A d a k b) (step A d c k b) (u ++ v) (take t c k u v h s)
    take t (star a) k u v h s = star-take a (take t a) k u v h.0 h.1 h.2 s
    take t again k u v h s = t k u v h s

    pub taken : Taken b (Nested rule d) A → (g : Grammar) → Taken b (Spells (Nested rule d) g) (λ k. step A d g k b)
    taken t (leaf l) k w h = let m = leaf-out (leaf_after l b) k w h in (m.0, m.1, m.2, leaf-taken l b m.0 m.3, m.4)
    taken t (sequence a c) k w h =
        elim (any-split (step A d a (part d c ∷ k) b) (cond (ends a) (step A d c k b) []) w h) [
          | inl m ↦
              let x = taken t a (part d c ∷ k) w m in
              let y = x.4 in
              (x.0 ++ y.0, y.1, x.2 ∙ ap (λ (z : List ℕ). x.0 ++ z) y.2 ∙ sym (append_assoc x.0 y.0 y.1), (b ∷ x.0, y.0, refl, x.3, y.3), y.4)
          | inr m ↦
              let n = any-only (ends a) (step A d c k b) w m in
              let x = taken t c k w n.1 in
              (x.0, x.1, x.2, ([], b ∷ x.0, refl, stops (Nested rule d) none a n.0, x.3), x.4)
        ]
    taken t (choice a c) k w h =
        elim (any-split (step A d a k b) (step A d c k b) w h) [
          | inl m ↦ let x = taken t a k w m in (x.0, x.1, x.2, inl x.3, x.4)
          | inr m ↦ let x = taken t c k w m in (x.0, x.1, x.2, inr x.3, x.4)
        ]
    taken t (star a) k w h =
        let x = taken t a (part d (star a) ∷ k) w h in
        let y = x.4 in
        let m = y.3 in
        (x.0 ++ y.0, y.1, x.2 ∙ ap (λ (z : List ℕ). x.0 ++ z) y.2 ∙ sym (append_assoc x.0 y.0 y.1), ((b ∷ x.0) ∷ m.0, ap (λ (z : List ℕ). b ∷ x.0 ++ z) m.1, (x.3, m.2)), y.4)
    taken t again k w h = t k w h

  -- what is left of sound parts is sound
  sound-both : (ts us : List Thread) → AreSound ts → AreSound us → AreSound (ts ++ us)
  sound-both [] us h k = k
  sound-both (t ∷ ts) us h k = (h.0, h.1, sound-both ts us h.2 k)

  sound-when : (t : Bool) (us : List Thread) → AreSound us → AreSound (cond t us [])
  sound-when true us h = h
  sound-when false us h = tt

  leaf-sound : (o : Option Leaf) (k : List Part) → LeafSound o → IsSoundStack k → AreSound (leaf_threads o k)
  leaf-sound None k h s = tt
  leaf-sound (Some l) k h s = (h, s, tt)

  keeps : (b d : ℕ) (A : List Part → List Thread) → ((k : List Part) → IsSoundStack k → AreSound (A k)) → (last : Bool) (g : Grammar) → sound_at last g ≡ true → (k : List Part) → IsSoundStack k → AreSound (step A d g k b)
  keeps b d A t last (leaf l) s k h = leaf-sound (leaf_after l b) k (leaf-keeps l b s) h
  keeps b d A t last (sequence a c) s k h =
      let x = first_of_both (is_sound a) (is_sound c) s in
      let y = second_of_both (is_sound a) (is_sound c) s in
      sound-both (step A d a (part d c ∷ k) b) (cond (ends a) (step A d c k b) []) (keeps b d A t false a x (part d c ∷ k) (y, h)) (sound-when (ends a) (step A d c k b) (keeps b d A t false c y k h))
  keeps b d A t last (choice a c) s k h =
      sound-both (step A d a k b) (step A d c k b) (keeps b d A t false a (first_of_both (is_sound a) (sound_at true c) s) k h) (keeps b d A t true c (second_of_both (is_sound a) (sound_at true c) s) k h)
  keeps b d A t last (star a) s k h = keeps b d A t false a s (part d (star a) ∷ k) (s, h)
  keeps b d A t last again s k h = t k h

  module _ (good : is_rule rule ≡ true) where
    pub nested-none : (d : ℕ) → Nested rule d [] → ⊥
    nested-none zero h = h
    nested-none (suc d) h = not_true (ends rule) (first_of_both (not (ends rule)) (is_sound rule) good) (stop (Nested rule d) (nested-none d) rule h)

    again-take : (b d : ℕ) → Takes b (Nested rule d) (step_again rule b d)
    again-take b zero k u v h s = absurd h
    again-take b (suc d) k u v h s = take b d (step_again rule b d) (nested-none d) (again-take b d) rule k u v h s

    again-taken : (b d : ℕ) → Taken b (Nested rule d) (step_again rule b d)
    again-taken b zero k w h = absurd h
    again-taken b (suc d) k w h = taken b d (step_again rule b d) (nested-none d) (again-taken b d) rule k w h

    again-keeps : (b d : ℕ) (k : List Part) → IsSoundStack k → AreSound (step_again rule b d k)
    again-keeps b zero k h = tt
    again-keeps b (suc d) k h = keeps b d (step_again rule b d) (again-keeps b d) false rule (second_of_both (not (ends rule)) (is_sound rule) good) k h

    -- THE PARTS of a thread, one after another
    stack-stop : (ps : List Part) → Stacked rule ps [] → stack_ends ps ≡ true
    stack-stop [] h = refl
    stack-stop (p ∷ ps) h =
        both (ends p.grammar) (stack_ends ps)
        (stop (Nested rule p.depth) (nested-none p.depth) p.grammar (subst (λ (x : List ℕ). Spells (Nested rule p.depth) p.grammar x) (empty_front h.0 h.1 h.2) h.3))
        (stack-stop ps (subst (λ (x : List ℕ). Stacked rule ps x) (empty_back h.0 h.1 h.2) h.4))

    stack-stops : (ps : List Part) → stack_ends ps ≡ true → Stacked rule ps []
    stack-stops [] h = refl
    stack-stops (p ∷ ps) h = ([], [], refl, stops (Nested rule p.depth) (nested-none p.depth) p.grammar (first_of_both (ends p.grammar) (stack_ends ps) h), stack-stops ps (second_of_both (ends p.grammar) (stack_ends ps) h))

    stack-begins : (b : ℕ) (p : Part) (ps : List Part) (w u v : List ℕ) → (Stacked rule ps (b ∷ w) → AnyThread rule (stack_step rule ps b) w) → b ∷ w ≡ u ++ v → Spells (Nested rule p.depth) p.grammar u → Stacked rule ps v → AnyThread rule (stack_step rule (p ∷ ps) b) w
    stack-begins b p ps w [] v rest e m s =
        any-second (step (step_again rule b p.depth) p.depth p.grammar ps b) (cond (ends p.grammar) (stack_step rule ps b) []) w
        (any-when (ends p.grammar) (stack_step rule ps b) w (stop (Nested rule p.depth) (nested-none p.depth) p.grammar m) (rest (subst (λ (x : List ℕ). Stacked rule ps x) (sym e) s)))
    stack-begins b p ps w (z ∷ u) v rest e m s =
        let q : z ≡ b = cc in
        let r : u ++ v ≡ w = cc in
        any-first (step (step_again rule b p.depth) p.depth p.grammar ps b) (cond (ends p.grammar) (stack_step rule ps b) []) w
        (any-same (step (step_again rule b p.depth) p.depth p.grammar ps b) (u ++ v) w r
        (take b p.depth (step_again rule b p.depth) (nested-none p.depth) (again-take b p.depth) p.grammar ps u v (subst (λ (y : ℕ). Spells (Nested rule p.depth) p.grammar (y ∷ u)) q m) s))

    stack-take : (b : ℕ) (ps : List Part) (w : List ℕ) → Stacked rule ps (b ∷ w) → AnyThread rule (stack_step rule ps b) w
    stack-take b [] w h = cc
    stack-take b (p ∷ ps) w h = stack-begins b p ps w h.0 h.1 (λ s. stack-take b ps w s) h.2 h.3 h.4

    stack-taken : (b : ℕ) (ps : List Part) (w : List ℕ) → AnyThread rule (stack_step rule ps b) w → Stacked rule ps (b ∷ w)
    stack-taken b [] w h = absurd h
    stack-taken b (p ∷ ps) w h =
        elim (any-split (step (step_again rule b p.depth) p.depth p.grammar ps b) (cond (ends p.grammar) (stack_step rule ps b) []) w h) [
          | inl m ↦
              let x = taken b p.depth (step_again rule b p.depth) (nested-none p.depth) (again-taken b p.depth) p.grammar ps w m in
              (b ∷ x.0, x.1, ap (λ (z : List ℕ). b ∷ z) x.2, x.3, x.4)
          | inr m ↦
              let n = any-only (ends p.grammar) (stack_step rule ps b) w m in
              ([], b ∷ w, refl, stops (Nested rule p.depth) (nested-none p.depth) p.grammar n.0, stack-taken b ps w n.1)
        ]

    stack-lives : (ps : List Part) → IsSoundStack ps → (w : List ℕ) × Stacked rule ps w
    stack-lives [] h = ([], refl)
    stack-lives (p ∷ ps) h = let x = lives (Nested rule p.depth) p.grammar h.0 in let y = stack-lives ps h.1 in (x.0 ++ y.0, (x.0, y.0, refl, x.1, y.1))

    stack-keeps : (b : ℕ) (ps : List Part) → IsSoundStack ps → AreSound (stack_step rule ps b)
    stack-keeps b [] h = tt
    stack-keeps b (p ∷ ps) h =
        sound-both (step (step_again rule b p.depth) p.depth p.grammar ps b) (cond (ends p.grammar) (stack_step rule ps b) [])
        (keeps b p.depth (step_again rule b p.depth) (again-keeps b p.depth) false p.grammar h.0 ps h.1)
        (sound-when (ends p.grammar) (stack_step rule ps b) (stack-keeps b ps h.1))

    -- THE LAWS of threads
    pub threads-stop : (ts : List Thread) → AnyThread rule ts [] → threads_end ts ≡ true
    threads-stop [] h = absurd h
    threads-stop (t ∷ ts) (inl h) =
        or_first (leaf_ends t.top && stack_ends t.below) (threads_end ts)
        (both (leaf_ends t.top) (stack_ends t.below)
        (leaf-stop t.top (subst (λ (x : List ℕ). Holds t.top x) (empty_front h.0 h.1 h.2) h.3))
        (stack-stop t.below (subst (λ (x : List ℕ). Stacked rule t.below x) (empty_back h.0 h.1 h.2) h.4)))
    threads-stop (t ∷ ts) (inr h) = or_second (leaf_ends t.top && stack_ends t.below) (threads_end ts) (threads-stop ts h)

    pub threads-stops : (ts : List Thread) → threads_end ts ≡ true → AnyThread rule ts []
    threads-stops [] h = cc
    threads-stops (t ∷ ts) h =
        elim (or_cases (leaf_ends t.top && stack_ends t.below) (threads_end ts) h) [
          | inl k ↦ inl ([], [], refl, leaf-stops t.top (first_of_both (leaf_ends t.top) (stack_ends t.below) k), stack-stops t.below (second_of_both (leaf_ends t.top) (stack_ends t.below) k))
          | inr k ↦ inr (threads-stops ts k)
        ]

    thread-take : (b : ℕ) (t : Thread) (w u v : List ℕ) → b ∷ w ≡ u ++ v → Holds t.top u → Stacked rule t.below v → AnyThread rule (thread_step rule t b) w
    thread-take b t w [] v e h s =
        any-second (leaf_threads (leaf_after t.top b) t.below) (cond (leaf_ends t.top) (stack_step rule t.below b) []) w
        (any-when (leaf_ends t.top) (stack_step rule t.below b) w (leaf-stop t.top h) (stack-take b t.below w (subst (λ (x : List ℕ). Stacked rule t.below x) (sym e) s)))
    thread-take b t w (z ∷ u) v e h s =
        let q : z ≡ b = cc in
        let r : u ++ v ≡ w = cc in
        any-first (leaf_threads (leaf_after t.top b) t.below) (cond (leaf_ends t.top) (stack_step rule t.below b) []) w
        (any-same (leaf_threads (leaf_after t.top b) t.below) (u ++ v) w r
        (leaf-in (leaf_after t.top b) t.below u v (leaf-take t.top b u (subst (λ (y : ℕ). Holds t.top (y ∷ u)) q h)) s))

    thread-taken : (b : ℕ) (t : Thread) (w : List ℕ) → AnyThread rule (thread_step rule t b) w → Threaded rule t (b ∷ w)
    thread-taken b t w h =
        elim (any-split (leaf_threads (leaf_after t.top b) t.below) (cond (leaf_ends t.top) (stack_step rule t.below b) []) w h) [
          | inl m ↦ let x = leaf-out (leaf_after t.top b) t.below w m in (b ∷ x.0, x.1, ap (λ (z : List ℕ). b ∷ z) x.2, leaf-taken t.top b x.0 x.3, x.4)
          | inr m ↦ let n = any-only (leaf_ends t.top) (stack_step rule t.below b) w m in ([], b ∷ w, refl, leaf-stops t.top n.0, stack-taken b t.below w n.1)
        ]

    pub threads-take : (b : ℕ) (ts : List Thread) (w : List ℕ) → AnyThread rule ts (b ∷ w) → AnyThread rule (threads_step rule ts b) w
    threads-take b [] w h = absurd h
    threads-take b (t ∷ ts) w (inl h) = any-first (thread_step rule t b) (threads_step rule ts b) w (thread-take b t w h.0 h.1 h.2 h.3 h.4)
    threads-take b (t ∷ ts) w (inr h) = any-second (thread_step rule t b) (threads_step rule ts b) w (threads-take b ts w h)

    pub threads-taken : (b : ℕ) (ts : List Thread) (w : List ℕ) → AnyThread rule (threads_step rule ts b) w → AnyThread rule ts (b ∷ w)
    threads-taken b [] w h = absurd h
    threads-taken b (t ∷ ts) w h =
        elim (any-split (thread_step rule t b) (threads_step rule ts b) w h) [ inl k ↦ inl (thread-taken b t w k) | inr k ↦ inr (threads-taken b ts w k) ]

    pub threads-lives : (ts : List Thread) → IsGood ts → (w : List ℕ) × AnyThread rule ts w
    threads-lives [] h = absurd h
    threads-lives (t ∷ ts) h = let x = leaf-lives t.top h.0 in let y = stack-lives t.below h.1 in (x.0 ++ y.0, inl (x.0, y.0, refl, x.1, y.1))

    pub threads-keeps : (b : ℕ) (ts : List Thread) → AreSound ts → AreSound (threads_step rule ts b)
    threads-keeps b [] h = tt
    threads-keeps b (t ∷ ts) h =
        sound-both (thread_step rule t b) (threads_step rule ts b)
        (sound-both (leaf_threads (leaf_after t.top b) t.below) (cond (leaf_ends t.top) (stack_step rule t.below b) []) (leaf-sound (leaf_after t.top b) t.below (leaf-keeps t.top b h.0) h.1) (sound-when (leaf_ends t.top) (stack_step rule t.below b) (stack-keeps b t.below h.1)))
        (threads-keeps b ts h.2)

    -- THE START: the reader of a text reads the sentences
    pub start-in : (d : ℕ) (g : Grammar) (w : List ℕ) → Spells (Nested rule d) g w → AnyThread rule (start d g) w
    start-in d g w h = inl ([], w, refl, refl, (w, [], sym (append-nil w), h, refl))

    pub start-out : (d : ℕ) (g : Grammar) (w : List ℕ) → AnyThread rule (start d g) w → Spells (Nested rule d) g w
    start-out d g w (inl h) =
        let s = h.4 in
        let e : w ≡ s.0 = h.2 ∙ ap (λ (x : List ℕ). x ++ h.1) h.3 ∙ s.2 ∙ ap (λ (x : List ℕ). s.0 ++ x) s.4 ∙ append-nil s.0 in
        subst (λ (x : List ℕ). Spells (Nested rule d) g x) (sym e) s.3
    start-out d g w (inr h) = absurd h

    pub start-sound : (d : ℕ) (g : Grammar) → is_sound g ≡ true → IsGood (start d g)
    start-sound d g s = (refl, (s, tt), tt)
