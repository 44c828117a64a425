-- The least line with a property, where there is one.
use Rattle.std.proofs.Common.{◌≡◌, ℕ, zero, suc, ◌<◌, ◌⊎◌, inl, inr, List, [], ◌∷◌, length, refl, sym, subst, arith}
use Rattle.std.proofs.lemmas.Bool.{cases_lt}
use Rattle.lf_product.proofs.Deciding.{Decided, FirstBelow, first_below}
use Rattle.lf_product.specs.Walk.{NotAbove, LineLe}

-- each is below 256
abbrev pub AreBytes : List ℕ → Type 0
AreBytes [] = Unit {0}
AreBytes (c ∷ cs) = (c < 256) × AreBytes cs

-- the least of the lines of a length with a property
record LeastOfLength (k : ℕ) (P : List ℕ → Type 0) : Type 0 where
  pub line : List ℕ
  pub len : length line ≡ k
  pub holds : P line
  pub least : (other : List ℕ) → length other ≡ k → P other → NotAbove line other

-- no such line has it
abbrev NoneOfLength : ℕ → (List ℕ → Type 0) → Type 0
NoneOfLength k P = (line : List ℕ) → length line ≡ k → P line → ⊥

abbrev Either : ℕ → (List ℕ → Type 0) → Type 0
Either k P = LeastOfLength k P ⊎ NoneOfLength k P

some_or : (k : ℕ) (P : List ℕ → Type 0) → Either k P → Decided (LeastOfLength k P)
some_or k P (inl l) = inl l
some_or k P (inr none) = inr (λ l. none l.line l.len l.holds)

there : (k : ℕ) (P : List ℕ → Type 0) (line : List ℕ) → Either k P → length line ≡ k → P line → LeastOfLength k P
there k P line (inl l) len q = l
there k P line (inr none) len q = absurd (none line len q)

-- what begins with the byte
abbrev on : ℕ → (List ℕ → Type 0) → List ℕ → Type 0
on c P rest = P (c ∷ rest)

none_at_zero : (P : List ℕ → Type 0) → (P [] → ⊥) → NoneOfLength 0 P
none_at_zero P never [] len q = never q
none_at_zero P never (c ∷ cs) len q = absurd (omega (arith, len))

least_at_zero : (P : List ℕ → Type 0) → Decided (P []) → Either 0 P
least_at_zero P (inl h) = inl (record { line = []; len = refl; holds = h; least = λ other len q. tt })
least_at_zero P (inr never) = inr (none_at_zero P never)

cons_least : (k : ℕ) (P : List ℕ → Type 0) → ((c : ℕ) → Either k (on c P)) → (f : FirstBelow 256 (λ (c : ℕ). LeastOfLength k (on c P))) → (other : List ℕ) → length other ≡ suc k → P other → NotAbove (f.at ∷ f.holds.line) other
cons_least k P rest f [] len q = absurd (omega (arith, len))
cons_least k P rest f (b ∷ bs) len q =
    let short : length bs ≡ k = omega (arith, len) in
    elim (cases_lt f.at b) [
      | inl lt ↦ inl lt
      | inr ge ↦
          elim (cases_lt b f.at) [
            | inl lt ↦ absurd (f.none b lt (there k (on b P) bs (rest b) short q))
            | inr le ↦ let e : f.at ≡ b = omega (arith, ge, le) in inr (e, f.holds.least bs short (subst (λ (c : ℕ). P (c ∷ bs)) (sym e) q))
          ]
    ]

none_cons : (k : ℕ) (P : List ℕ → Type 0) → ((c : ℕ) → Either k (on c P)) → ((line : List ℕ) → P line → AreBytes line) → ((c : ℕ) → c < 256 → LeastOfLength k (on c P) → ⊥) → NoneOfLength (suc k) P
none_cons k P rest low none [] len q = absurd (omega (arith, len))
none_cons k P rest low none (b ∷ bs) len q = none b (low (b ∷ bs) q).0 (there k (on b P) bs (rest b) (omega (arith, len)) q)

least_on : (k : ℕ) (P : List ℕ → Type 0) → ((line : List ℕ) → P line → AreBytes line) → ((c : ℕ) → Either k (on c P)) → Either (suc k) P
least_on k P low rest =
    elim (first_below 256 (λ (c : ℕ). LeastOfLength k (on c P)) (λ c. some_or k (on c P) (rest c))) [
      | inl f ↦ inl (record {
        line = f.at ∷ f.holds.line;
        len = let short = f.holds.len in omega (arith, short);
        holds = f.holds.holds;
        least = cons_least k P rest f;
      })
      | inr none ↦ inr (none_cons k P rest low none)
    ]

least_of_length : (k : ℕ) (P : List ℕ → Type 0) → ((line : List ℕ) → Decided (P line)) → ((line : List ℕ) → P line → AreBytes line) → Either k P
least_of_length zero P dec low = least_at_zero P (dec [])
least_of_length (suc k) P dec low = least_on k P low (λ c. least_of_length k (on c P) (λ rest. dec (c ∷ rest)) (λ rest q. (low (c ∷ rest) q).1))

-- the least of all lines with a property
pub record LeastLine (P : List ℕ → Type 0) : Type 0 where
  pub line : List ℕ
  pub holds : P line
  pub least : (other : List ℕ) → P other → LineLe line other

shortest_least : (n : ℕ) (P : List ℕ → Type 0) → ((k : ℕ) → Either k P) → FirstBelow n (λ (k : ℕ). LeastOfLength k P) → LeastLine P
shortest_least n P each f = record {
  line = f.holds.line;
  holds = f.holds.holds;
  least = λ other q.
      let len = f.holds.len in
      elim (cases_lt f.at (length other)) [
        | inl lt ↦ inl (omega (arith, lt, len))
        | inr ge ↦
            elim (cases_lt (length other) f.at) [
              | inl lt ↦ absurd (f.none (length other) lt (there (length other) P other (each (length other)) refl q))
              | inr le ↦ inr (omega (arith, ge, le, len), f.holds.least other (omega (arith, ge, le)) q)
            ]
      ];
}

pub least_line : (P : List ℕ → Type 0) (some : List ℕ) → ((line : List ℕ) → Decided (P line)) → ((line : List ℕ) → P line → AreBytes line) → P some → LeastLine P
least_line P some dec low q =
    let each : (k : ℕ) → Either k P = λ k. least_of_length k P dec low in
    elim (first_below (suc (length some)) (λ (k : ℕ). LeastOfLength k P) (λ k. some_or k P (each k))) [
      | inl f ↦ shortest_least (suc (length some)) P each f
      | inr none ↦ absurd (none (length some) (omega arith) (there (length some) P some (each (length some)) refl q))
    ]
