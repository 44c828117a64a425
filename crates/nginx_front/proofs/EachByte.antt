-- What each byte of a grammar's texts passes.
use Rattle.std.proofs.Common.{◌≡◌, ℕ, zero, suc, ◌+◌, ◌-◌, ◌<◌, ◌≤◌, Bool, true, false, not, ◌&&◌, List, [], ◌∷◌, ◌++◌, refl, sym, subst, ◌∙◌, arith, inl, inr}
use Rattle.std.specs.List.{list_all, range_with_len}
use Rattle.std.proofs.lemmas.Bool.{and_parts, and_from, cases_eq}
use Rattle.std.proofs.lemmas.List.Folds.{list_all-append}
use Rattle.lf_syntax.specs.declared.leaf.Leaf.{Leaf}
use Rattle.lf_syntax.specs.declared.leaf.Leaf.TheVariants.{End, Within, Number, Digits, Item, Cross, High, Low, Rest}
use Rattle.lf_syntax.specs.Grammar.{Grammar, leaf, sequence, choice, star, again, joined, Each, Spells, ends}
use Rattle.lf_syntax.specs.ThreadLaws.{stop}
use Rattle.nginx_front.specs.Syntax.{Is, one_of}
use Rattle.lf_spelling.specs.Runs.{stops}

-- whether the leaves allow only bytes that pass the test
abbrev leaf_passes : (ℕ → Bool) → Leaf → Bool
leaf_passes p End = true
leaf_passes p (Within low high) = list_all p (range_with_len low (high + 1 - low))
leaf_passes p _ = false

abbrev pub passes : (ℕ → Bool) → Grammar → Bool
passes p (leaf l) = leaf_passes p l
passes p (sequence a c) = passes p a && passes p c
passes p (choice a c) = passes p a && passes p c
passes p (star a) = passes p a
passes p again = false

in_range : (p : ℕ → Bool) (a n b : ℕ) → list_all p (range_with_len a n) ≡ true → a ≤ b → b < a + n → p b ≡ true
in_range p a zero b h le lt = absurd (omega arith)
in_range p a (suc n) b h le lt =
    let both = and_parts (p a) (list_all p (range_with_len (a + 1) n)) h in
    elim (cases_eq a b) [ inl e ↦ subst (λ (x : ℕ). p x ≡ true) e both.0 | inr other ↦ in_range p (a + 1) n b both.1 (omega (arith, other)) (omega arith) ]

joined_all : (p : ℕ → Bool) (P : List ℕ → Type 0) → ((w : List ℕ) → P w → list_all p w ≡ true) → (ws : List (List ℕ)) → Each P ws → list_all p (joined ws) ≡ true
joined_all p P each [] h = refl
joined_all p P each (w ∷ ws) h = list_all-append p w (joined ws) ∙ and_from (list_all p w) (list_all p (joined ws)) (each w h.0) (joined_all p P each ws h.1)

within_all : (p : ℕ → Bool) (low high b : ℕ) (w : List ℕ) → list_all p (range_with_len low (high + 1 - low)) ≡ true → w ≡ b ∷ [] → low ≤ b → b ≤ high → list_all p w ≡ true
within_all p low high b w h is le most = subst (λ (t : List ℕ). list_all p t ≡ true) (sym is) (and_from (p b) true (in_range p low (high + 1 - low) b h le (omega arith)) refl)

pub every : (X : List ℕ → Type 0) (p : ℕ → Bool) (g : Grammar) (w : List ℕ) → passes p g ≡ true → Spells X g w → list_all p w ≡ true
every X p (leaf End) w h s = subst (λ (t : List ℕ). list_all p t ≡ true) (sym s) refl
every X p (leaf (Within low high)) w h s = within_all p low high s.0 w h s.1 s.2 s.3
every X p (leaf (Number lone limit)) w h s = absurd (cc)
every X p (leaf (Digits value limit)) w h s = absurd (cc)
every X p (leaf (Item from paired)) w h s = absurd (cc)
every X p (leaf (Cross from paired)) w h s = absurd (cc)
every X p (leaf (High from paired)) w h s = absurd (cc)
every X p (leaf (Low from paired high)) w h s = absurd (cc)
every X p (leaf (Rest value)) w h s = absurd (cc)
every X p (sequence a c) w h s =
    let both = and_parts (passes p a) (passes p c) h in
    subst (λ (t : List ℕ). list_all p t ≡ true) (sym s.2) (list_all-append p s.0 s.1 ∙ and_from (list_all p s.0) (list_all p s.1) (every X p a s.0 both.0 s.3) (every X p c s.1 both.1 s.4))
every X p (choice a c) w h s =
    let both = and_parts (passes p a) (passes p c) h in
    elim s [ inl x ↦ every X p a w both.0 x | inr y ↦ every X p c w both.1 y ]
every X p (star a) w h s = subst (λ (t : List ℕ). list_all p t ≡ true) (sym s.1) (joined_all p (Spells X a) (λ u q. every X p a u h q) s.0 s.2)
every X p again w h s = absurd (cc)

-- What begins with such a text begins with a byte that doesn't pass.
pub begins_other : (p : ℕ → Bool) (g : Grammar) (w rest : List ℕ) → passes (λ b. not (p b)) g ≡ true → ends g ≡ false → Is g w → stops p (w ++ rest) ≡ true
begins_other p g [] rest h none s = let some : ends g ≡ true = stop (λ w. ⊥) (λ h. h) g s in absurd (cc)
begins_other p g (b ∷ w) rest h none s = (and_parts (not (p b)) (list_all (λ b. not (p b)) w) (every (λ w. ⊥) (λ b. not (p b)) g (b ∷ w) h s)).0

-- One byte of ranges is a byte.
pub one_byte : (X : List ℕ → Type 0) (ranges : List (ℕ × ℕ)) (last : ℕ × ℕ) (w : List ℕ) → Spells X (one_of ranges last) w → (b : ℕ) × (w ≡ b ∷ [])
one_byte X [] last w s = (s.0, s.1)
one_byte X (range ∷ ranges) last w s = elim s [ inl x ↦ (x.0, x.1) | inr y ↦ one_byte X ranges last w y ]
