-- Where the parts have no such byte, a sentence of parts joined by it is cut at it into its parts.
use Rattle.std.proofs.Common.{◌≡◌, ℕ, zero, suc, ◌-◌, ◌*◌, ◌+◌, ◌≤◌, not, inl, inr, ◌&&◌, ◌||◌, eqb, leb, Bool, true, false, cond, Option, Some, None, List, [], ◌∷◌, ◌++◌, refl, sym, ap, subst, ◌∙◌, append-nil, arith}
use Rattle.lf_syntax.specs.declared.leaf.Leaf.{Leaf}
use Rattle.lf_syntax.specs.declared.leaf.Leaf.TheVariants.{End, Within, Number, Digits, Item, Cross, High, Low, Rest}
use Rattle.lf_syntax.specs.Leaf.{Holds, is_within, is_plain, hex_value, tail, leaf_after}
use Rattle.lf_syntax.specs.LeafLaws.{bool_cases, both, first_of_both, second_of_both, leb-yes, eqb-is, eqb-yes, LeafLeft, leaf-take}
use Rattle.lf_syntax.specs.Grammar.{Grammar, leaf, sequence, choice, star, again, joined, Each, Spells, Nested}
use Rattle.lf_syntax.specs.Cuts.{is_of_items, leaf_avoids, avoids, onto_first, cuts, separated}

-- the text has no such byte
abbrev pub Free : ℕ → List ℕ → Type 0
Free b [] = Unit {0}
Free b (x ∷ w) = (eqb x b ≡ false) × Free b w

pub free-both : (b : ℕ) (u v : List ℕ) → Free b u → Free b v → Free b (u ++ v)
free-both b [] v h k = k
free-both b (x ∷ u) v h k = (h.0, free-both b u v h.1 k)

free-joined : (b : ℕ) (P : List ℕ → Type 0) → ((w : List ℕ) → P w → Free b w) → (ws : List (List ℕ)) → Each P ws → Free b (joined ws)
free-joined b P f [] h = tt
free-joined b P f (w ∷ ws) h = free-both b w (joined ws) (f w h.0) (free-joined b P f ws h.1)

-- the grammar's texts are free of the byte where its leaves' are
module _ (b : ℕ) (X : List ℕ → Type 0) (nested : (w : List ℕ) → X w → Free b w) (leaves : (l : Leaf) (w : List ℕ) → leaf_avoids b l ≡ true → Holds l w → Free b w) where
  free_of : (w v : List ℕ) → w ≡ v → Free b v → Free b w
  free_of w v e h = subst (λ (x : List ℕ). Free b x) (sym e) h

  pub free : (g : Grammar) → avoids b g ≡ true → (w : List ℕ) → Spells X g w → Free b w
  free (leaf l) a w h = leaves l w a h
  free (sequence x y) a w h = free_of w (h.0 ++ h.1) h.2 (free-both b h.0 h.1 (free x (first_of_both (avoids b x) (avoids b y) a) h.0 h.3) (free y (second_of_both (avoids b x) (avoids b y) a) h.1 h.4))
  free (choice x y) a w (inl h) = free x (first_of_both (avoids b x) (avoids b y) a) w h
  free (choice x y) a w (inr h) = free y (second_of_both (avoids b x) (avoids b y) a) w h
  free (star x) a w h = free_of w (joined h.0) h.1 (free-joined b (Spells X x) (free x a) h.0 h.2)
  free again a w h = nested w h

-- a leaf that avoids the byte can't take it, and what is left of it avoids it
abbrev LeftAvoids : ℕ → Option Leaf → Type 0
LeftAvoids b None = Unit {0}
LeftAvoids b (Some l) = leaf_avoids b l ≡ true

left_when : (b : ℕ) (t : Bool) (x : Leaf) → leaf_avoids b x ≡ true → LeftAvoids b (cond t (Some x) None)
left_when b true x h = h
left_when b false x h = tt

tail-avoids : (b : ℕ) (pair : Bool) (value : ℕ) → not (is_of_items b) ≡ true → leaf_avoids b (tail pair value) ≡ true
tail-avoids b false value h = refl
tail-avoids b true value h = h

left-avoids : (b : ℕ) (l : Leaf) (x : ℕ) → leaf_avoids b l ≡ true → LeftAvoids b (leaf_after l x)
left-avoids b End x h = tt
left-avoids b (Within low high) x h = left_when b (is_within low high x) End refl
left-avoids b (Number lone limit) x h =
    elim (eqb x 48) as (λ t. LeftAvoids b (cond t (cond lone (Some End) None) (cond (is_within 49 57 x && leb (x - 48) limit) (Some (Digits (x - 48) limit)) None))) [
      | true ↦ left_when b lone End refl
      | false ↦ left_when b (is_within 49 57 x && leb (x - 48) limit) (Digits (x - 48) limit) h
    ]
left-avoids b (Digits value limit) x h = left_when b (is_within 48 57 x && leb (10 * value + (x - 48)) limit) (Digits (10 * value + (x - 48)) limit) h
left-avoids b (Item from pair) x h =
    elim (eqb x 92) as (λ t. LeftAvoids b (cond t (Some (Cross from pair)) (cond (is_plain x && leb from x) (Some (tail pair x)) None))) [
      | true ↦ h
      | false ↦ left_when b (is_plain x && leb from x) (tail pair x) (tail-avoids b pair x h)
    ]
left-avoids b (Cross from pair) x h = left_when b (eqb x 120) (High from pair) h
left-avoids b (High from pair) x h = left_when b (leb (hex_value x) 15 && leb from (16 * hex_value x + 15)) (Low from pair (hex_value x)) h
left-avoids b (Low from pair high) x h = left_when b (leb (hex_value x) 15 && leb from (16 * high + hex_value x)) (tail pair (16 * high + hex_value x)) (tail-avoids b pair (16 * high + hex_value x) h)
left-avoids b (Rest value) x h = left_when b (eqb x 45) (Item value false) h

clash : (t : Bool) → not t ≡ true → t ≡ true → ⊥
clash true n e = cc
clash false n e = cc

or_right : (s t : Bool) → t ≡ true → (s || t) ≡ true
or_right true t h = refl
or_right false t h = h

within_is : (low high b : ℕ) → low ≤ b → b ≤ high → is_within low high b ≡ true
within_is low high b x y = both (leb low b) (leb b high) (leb-yes low b x) (leb-yes b high y)

module _ (b : ℕ) where
  abbrev HexOrNot : Bool
  HexOrNot = leb (hex_value b) 15

  of_plain : is_plain b ≡ true → is_of_items b ≡ true
  of_plain e = ap (λ (t : Bool). t || (eqb b 92 || (eqb b 120 || (eqb b 45 || HexOrNot)))) e

  of_backslash : b ≡ 92 → is_of_items b ≡ true
  of_backslash e = or_right (is_plain b) (eqb b 92 || (eqb b 120 || (eqb b 45 || HexOrNot))) (ap (λ (t : Bool). t || (eqb b 120 || (eqb b 45 || HexOrNot))) (eqb-yes b 92 e))

  of_x : b ≡ 120 → is_of_items b ≡ true
  of_x e = or_right (is_plain b) (eqb b 92 || (eqb b 120 || (eqb b 45 || HexOrNot))) (or_right (eqb b 92) (eqb b 120 || (eqb b 45 || HexOrNot)) (ap (λ (t : Bool). t || (eqb b 45 || HexOrNot)) (eqb-yes b 120 e)))

  of_dash : b ≡ 45 → is_of_items b ≡ true
  of_dash e = or_right (is_plain b) (eqb b 92 || (eqb b 120 || (eqb b 45 || HexOrNot))) (or_right (eqb b 92) (eqb b 120 || (eqb b 45 || HexOrNot)) (or_right (eqb b 120) (eqb b 45 || HexOrNot) (ap (λ (t : Bool). t || HexOrNot) (eqb-yes b 45 e))))

  of_hex : hex_value b ≤ 15 → is_of_items b ≡ true
  of_hex h = or_right (is_plain b) (eqb b 92 || (eqb b 120 || (eqb b 45 || HexOrNot))) (or_right (eqb b 92) (eqb b 120 || (eqb b 45 || HexOrNot)) (or_right (eqb b 120) (eqb b 45 || HexOrNot) (or_right (eqb b 45) HexOrNot (leb-yes (hex_value b) 15 h))))

  misses : (l : Leaf) → leaf_avoids b l ≡ true → (w : List ℕ) → Holds l (b ∷ w) → ⊥
  misses End a w h = cc
  misses (Within low high) a w h =
      let e : b ≡ h.0 = let q = h.1 in cc in
      clash (is_within low high b) a (within_is low high b (let p = h.2 in omega arith) (let p = h.3 in omega arith))
  misses (Number lone limit) a w (inl h) = clash (is_within 48 57 b) a (within_is 48 57 b (let p = h.0 in omega arith) (let p = h.0 in omega arith))
  misses (Number lone limit) a w (inr h) = clash (is_within 48 57 b) a (within_is 48 57 b (let p = h.0 in omega arith) h.1)
  misses (Digits value limit) a w h = clash (is_within 48 57 b) a (within_is 48 57 b h.0.0 h.0.1)
  misses (Item from pair) a w (inl h) = clash (is_of_items b) a (of_backslash h.0)
  misses (Item from pair) a w (inr h) = clash (is_of_items b) a (of_plain h.0)
  misses (Cross from pair) a w h = clash (is_of_items b) a (of_x h.0)
  misses (High from pair) a w h = clash (is_of_items b) a (of_hex h.0)
  misses (Low from pair high) a w h = clash (is_of_items b) a (of_hex h.0)
  misses (Rest value) a w h = clash (is_of_items b) a (of_dash h.0)

  pub leaf-free : (l : Leaf) (w : List ℕ) → leaf_avoids b l ≡ true → Holds l w → Free b w
  leaf-free l [] a h = tt
  leaf-free l (x ∷ w) a h = (
    elim (bool_cases (eqb x b)) [ inl t ↦ absurd (misses l a w (subst (λ (y : ℕ). Holds l (y ∷ w)) (eqb-is x b t) h)) | inr f ↦ f ],
    let go : LeftAvoids b (leaf_after l x) → LeafLeft (leaf_after l x) w → Free b w =
        elim (leaf_after l x) as (λ o. LeftAvoids b o → LeafLeft o w → Free b w) [ None ↦ λ c k. absurd k | Some m ↦ λ c k. leaf-free m w c k ] in
        go (left-avoids b l x a) (leaf-take l x w h),
  )

  pub nested-free : (rule : Grammar) → avoids b rule ≡ true → (d : ℕ) (w : List ℕ) → Nested rule d w → Free b w
  nested-free rule a zero w h = absurd h
  nested-free rule a (suc d) w h = free b (Nested rule d) (nested-free rule a d) leaf-free rule a w h

  pub cuts-end : (u : List ℕ) → Free b u → cuts b u ≡ u ∷ []
  cuts-end [] h = refl
  cuts-end (x ∷ u) h =
      ap (λ (t : Bool). cond t ([] ∷ cuts b u) (onto_first x (cuts b u))) h.0 ∙ ap (λ (ps : List (List ℕ)). onto_first x ps) (cuts-end u h.1)

  pub cuts-on : (u rest : List ℕ) → Free b u → cuts b (u ++ b ∷ rest) ≡ u ∷ cuts b rest
  cuts-on [] rest h = ap (λ (t : Bool). cond t ([] ∷ cuts b rest) (onto_first b (cuts b rest))) (eqb-yes b b refl)
  cuts-on (x ∷ u) rest h =
      ap (λ (t : Bool). cond t ([] ∷ cuts b (u ++ b ∷ rest)) (onto_first x (cuts b (u ++ b ∷ rest)))) h.0 ∙ ap (λ (ps : List (List ℕ)). onto_first x ps) (cuts-on u rest h.1)

  module _ (X : List ℕ → Type 0) (part : Grammar) where
    begun : (w : List ℕ) → Spells X (sequence (leaf (Within b b)) part) w → (z : List ℕ) × (w ≡ b ∷ z) × Spells X part z
    begun w h =
        let y = h.3 in
        let e : y.0 ≡ b = let p = y.2 in let q = y.3 in omega arith in
        (h.1, h.2 ∙ ap (λ (x : List ℕ). x ++ h.1) y.1 ∙ ap (λ (c : ℕ). c ∷ h.1) e, h.4)

    -- CUT: the pieces of a sentence are sentences
    pub cut-each : ((w : List ℕ) → Spells X part w → Free b w) → (ws : List (List ℕ)) (u : List ℕ) → Spells X part u → Each (Spells X (sequence (leaf (Within b b)) part)) ws → Each (Spells X part) (cuts b (u ++ joined ws))
    cut-each f [] u p h =
        subst (λ (ps : List (List ℕ)). Each (Spells X part) ps) (sym (ap (λ (w : List ℕ). cuts b w) (append-nil u) ∙ cuts-end u (f u p))) (p, tt)
    cut-each f (w ∷ ws) u p h =
        let m = begun w h.0 in
        let e : cuts b (u ++ (w ++ joined ws)) ≡ u ∷ cuts b (m.0 ++ joined ws) =
        ap (λ (y : List ℕ). cuts b (u ++ (y ++ joined ws))) m.1 ∙ cuts-on u (m.0 ++ joined ws) (f u p) in
        subst (λ (ps : List (List ℕ)). Each (Spells X part) ps) (sym e) (p, cut-each f ws m.0 m.2 h.1)

-- pieces with the byte between them
abbrev tails : ℕ → List (List ℕ) → List (List ℕ)
tails b [] = []
tails b (p ∷ ps) = (b ∷ p) ∷ tails b ps

abbrev glued : ℕ → List (List ℕ) → List ℕ
glued b [] = []
glued b (p ∷ ps) = p ++ joined (tails b ps)

module _ (b : ℕ) where
  onto-glued : (x : ℕ) (ps : List (List ℕ)) → glued b (onto_first x ps) ≡ x ∷ glued b ps
  onto-glued x [] = refl
  onto-glued x (p ∷ ps) = refl

  onto-some : (x : ℕ) (ps : List (List ℕ)) → (p : List ℕ) × (qs : List (List ℕ)) × (onto_first x ps ≡ p ∷ qs)
  onto-some x [] = (x ∷ [], [], refl)
  onto-some x (p ∷ ps) = (x ∷ p, ps, refl)

  cuts-some : (w : List ℕ) → (p : List ℕ) × (ps : List (List ℕ)) × (cuts b w ≡ p ∷ ps)
  cuts-some [] = ([], [], refl)
  cuts-some (x ∷ w) =
      elim (eqb x b) as (λ t. (p : List ℕ) × (ps : List (List ℕ)) × (cond t ([] ∷ cuts b w) (onto_first x (cuts b w)) ≡ p ∷ ps)) [
        | true ↦ ([], cuts b w, refl)
        | false ↦ onto-some x (cuts b w)
      ]

  glued-after : (w : List ℕ) → glued b ([] ∷ cuts b w) ≡ b ∷ glued b (cuts b w)
  glued-after w =
      let s = cuts-some w in
      ap (λ (ps : List (List ℕ)). glued b ([] ∷ ps)) s.2 ∙ sym (ap (λ (ps : List (List ℕ)). b ∷ glued b ps) s.2)

  cuts-glued : (w : List ℕ) → glued b (cuts b w) ≡ w
  cuts-glued [] = refl
  cuts-glued (x ∷ w) =
      elim (bool_cases (eqb x b)) [
        | inl t ↦
            ap (λ (y : Bool). glued b (cond y ([] ∷ cuts b w) (onto_first x (cuts b w)))) t
            ∙ glued-after w ∙ ap (λ (z : List ℕ). b ∷ z) (cuts-glued w) ∙ ap (λ (y : ℕ). y ∷ w) (sym (eqb-is x b t))
        | inr f ↦
            ap (λ (y : Bool). glued b (cond y ([] ∷ cuts b w) (onto_first x (cuts b w)))) f
            ∙ onto-glued x (cuts b w) ∙ ap (λ (z : List ℕ). x ∷ z) (cuts-glued w)
      ]

  module _ (X : List ℕ → Type 0) (part : Grammar) where
    tails-each : (ps : List (List ℕ)) → Each (Spells X part) ps → Each (Spells X (sequence (leaf (Within b b)) part)) (tails b ps)
    tails-each [] h = tt
    tails-each (p ∷ ps) h = ((b ∷ [], p, refl, (b, refl, omega arith, omega arith), h.0), tails-each ps h.1)

    glued-spells : (ps : List (List ℕ)) (p : List ℕ) → Each (Spells X part) (p ∷ ps) → Spells X (separated b part) (glued b (p ∷ ps))
    glued-spells ps p h = (p, joined (tails b ps), refl, h.0, (tails b ps, refl, tails-each ps h.1))

    -- REJOINED: a text of which each piece is a sentence is a sentence of them
    pub rejoined : (w : List ℕ) → Each (Spells X part) (cuts b w) → Spells X (separated b part) w
    rejoined w h =
        let s = cuts-some w in
        let e : glued b (s.0 ∷ s.1) ≡ w = sym (ap (λ (ps : List (List ℕ)). glued b ps) s.2) ∙ cuts-glued w in
        let k : Each (Spells X part) (s.0 ∷ s.1) = subst (λ (ps : List (List ℕ)). Each (Spells X part) ps) s.2 h in
        subst (λ (v : List ℕ). Spells X (separated b part) v) e (glued-spells s.1 s.0 k)

  pub cut_parts : (rule part : Grammar) (d : ℕ) (w : List ℕ) → avoids b rule ≡ true → avoids b part ≡ true → Spells (Nested rule d) (separated b part) w → Each (Spells (Nested rule d) part) (cuts b w)
  cut_parts rule part d w a c h =
      let m = h.4 in
      let f : (v : List ℕ) → Spells (Nested rule d) part v → Free b v = free b (Nested rule d) (nested-free b rule a d) (leaf-free b) part c in
      let e : w ≡ h.0 ++ joined m.0 = h.2 ∙ ap (λ (v : List ℕ). h.0 ++ v) m.1 in
      subst (λ (v : List ℕ). Each (Spells (Nested rule d) part) (cuts b v)) (sym e) (cut-each b (Nested rule d) part f m.0 h.0 h.3 m.2)
