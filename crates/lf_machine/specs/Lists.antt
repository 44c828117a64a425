-- Lists of moves: what stands in them, and marks that rise.
use Rattle.std.proofs.Common.{◌≡◌, ℕ, ◌+◌, ◌<◌, ◌≤◌, ◌⊎◌, inl, inr, List, [], ◌∷◌, ◌++◌, map, refl, sym, ap, ◌∙◌, arith, Contains, Bool, true, false, cond}
use Rattle.std.proofs.lemmas.List.Elements.{All-nil, All-cons, All-contains, Contains-push, Contains-append_cases, Contains-append_left, Contains-append_right}
use Rattle.lf_core.specs.Marked.{NoneTwice}
use Rattle.lf_core.specs.declared.marked.Move.{Move}

pub none-there : {A : Type 0} (m : A) → Contains [] m → ⊥
none-there m h = let k = h.1 in omega arith

pub one-there : {A : Type 0} (x m : A) → Contains (x ∷ []) m → m ≡ x
one-there {A} x m h = All-contains (λ (k : A). k ≡ x) (x ∷ []) m (All-cons (λ (k : A). k ≡ x) x [] refl (All-nil (λ (k : A). k ≡ x))) h

pub there-one : {A : Type 0} (x : A) → Contains (x ∷ []) x
there-one x = Contains-push [] x

pub never-nil : (xs : List ℕ) (x : ℕ) → xs ++ x ∷ [] ≡ [] → ⊥
never-nil [] x e = cc
never-nil (y ∷ xs) x e = cc

pub first-there : {A : Type 0} (x m : A) (xs : List A) → Contains (x ∷ xs) m → (m ≡ x) ⊎ Contains xs m
first-there x m xs h = elim (Contains-append_cases (x ∷ []) xs m h) [ inl k ↦ inl (one-there x m k) | inr k ↦ inr k ]

pub map-from : {A B : Type 0} (f : A → B) (xs : List A) (m : B) → Contains (map f xs) m → (x : A) × Contains xs x × (m ≡ f x)
map-from f [] m h = absurd (none-there m h)
map-from f (x ∷ xs) m h =
    elim (first-there (f x) m (map f xs) h) [
      | inl e ↦ (x, Contains-append_left (x ∷ []) xs x (there-one x), e)
      | inr k ↦ let r = map-from f xs m k in (r.0, Contains-append_right (x ∷ []) xs r.0 r.1, r.2)
    ]

pub map-into : {A B : Type 0} (f : A → B) (xs : List A) (x : A) → Contains xs x → Contains (map f xs) (f x)
map-into f [] x h = absurd (none-there x h)
map-into {A} {B} f (y ∷ xs) x h =
    elim (first-there y x xs h) [
      | inl e ↦ Contains-append_left (f y ∷ []) (map f xs) (f x) (let g : f x ≡ f y = ap f e in rw g (there-one (f y)))
      | inr k ↦ Contains-append_right (f y ∷ []) (map f xs) (f x) (map-into f xs x k)
    ]

-- the marks rise, from the one bound to below the other
abbrev pub Rises : ℕ → ℕ → List Move → Type 0
Rises low high [] = low ≤ high
Rises low high (m ∷ ms) = (low ≤ m.mark) × Rises (m.mark + 1) high ms

pub rises-more : (a b c : ℕ) (ms : List Move) → a ≤ b → Rises b c ms → Rises a c ms
rises-more a b c [] l h = omega arith
rises-more a b c (m ∷ ms) l h = (omega (arith, h.0), h.1)

pub rises-up : (a b c : ℕ) (ms : List Move) → b ≤ c → Rises a b ms → Rises a c ms
rises-up a b c [] l h = omega arith
rises-up a b c (m ∷ ms) l h = (h.0, rises-up (m.mark + 1) b c ms l h.1)

pub rises-order : (a b : ℕ) (ms : List Move) → Rises a b ms → a ≤ b
rises-order a b [] h = h
rises-order a b (m ∷ ms) h = let r = rises-order (m.mark + 1) b ms h.1 in omega (arith, h.0, r)

pub rises-append : (a b c : ℕ) (xs ys : List Move) → Rises a b xs → Rises b c ys → Rises a c (xs ++ ys)
rises-append a b c [] ys h g = rises-more a b c ys h g
rises-append a b c (m ∷ xs) ys h g = (h.0, rises-append (m.mark + 1) b c xs ys h.1 g)

pub rises-there : (a b : ℕ) (ms : List Move) (m : Move) → Rises a b ms → Contains ms m → (a ≤ m.mark) × (m.mark < b)
rises-there a b [] m h k = absurd (none-there m k)
rises-there a b (x ∷ ms) m h k =
    elim (first-there x m ms k) [
      | inl e ↦
          let r = rises-order (x.mark + 1) b ms h.1 in
          let q : m.mark ≡ x.mark = ap (λ (z : Move). z.mark) e in
          (omega (arith, h.0), omega (arith, r))
      | inr g ↦ let r = rises-there (x.mark + 1) b ms m h.1 g in (omega (arith, h.0, r.0), r.1)
    ]

-- such a list has no move twice, and no two moves of one mark
pub rises-once : (a b : ℕ) (ms : List Move) → Rises a b ms → NoneTwice ms
rises-once a b [] h = tt
rises-once a b (m ∷ ms) h = (λ k. let r = (rises-there (m.mark + 1) b ms m h.1 k).0 in omega (arith, r), rises-once (m.mark + 1) b ms h.1)

pub rises-told : (a b : ℕ) (ms : List Move) (m k : Move) → Rises a b ms → Contains ms m → Contains ms k → m.mark ≡ k.mark → m ≡ k
rises-told a b [] m k h c d e = absurd (none-there m c)
rises-told a b (x ∷ ms) m k h c d e =
    elim (first-there x m ms c) [
      | inl p ↦
          elim (first-there x k ms d) [
            | inl q ↦ p ∙ sym q
            | inr q ↦
                let r = (rises-there (x.mark + 1) b ms k h.1 q).0 in
                let z : m.mark ≡ x.mark = ap (λ (y : Move). y.mark) p in
                absurd (omega (arith, r))
          ]
      | inr p ↦
          elim (first-there x k ms d) [
            | inl q ↦
                let r = (rises-there (x.mark + 1) b ms m h.1 p).0 in
                let z : k.mark ≡ x.mark = ap (λ (y : Move). y.mark) q in
                absurd (omega (arith, r))
            | inr q ↦ rises-told (x.mark + 1) b ms m k h.1 p q e
          ]
    ]

pub cond-there : {A : Type 0} (b : Bool) (xs : List A) (m : A) → Contains (cond b xs []) m → (b ≡ true) × Contains xs m
cond-there true xs m h = (refl, h)
cond-there false xs m h = absurd (none-there m h)

pub there-cond : {A : Type 0} (b : Bool) (xs : List A) (m : A) → b ≡ true → Contains xs m → Contains (cond b xs []) m
there-cond b xs m e h = rw e h

pub rises-guard : (b : Bool) (low high : ℕ) (ms : List Move) → low ≤ high → Rises low high ms → Rises low high (cond b ms [])
rises-guard true low high ms l h = h
rises-guard false low high ms l h = l

pub rises-either : (b : Bool) (low high : ℕ) (xs ys : List Move) → Rises low high xs → Rises low high ys → Rises low high (cond b xs ys)
rises-either true low high xs ys h g = h
rises-either false low high xs ys h g = g
