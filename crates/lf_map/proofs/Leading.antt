-- A map is cut at each `;` outside of its strings into its assignments.
use Rattle.std.proofs.Common.{◌≡◌, ℕ, zero, suc, ◌≤◌, inl, inr, ◌&&◌, eqb, Bool, true, false, cond, List, [], ◌∷◌, ◌++◌, refl, sym, ap, subst, ◌∙◌, append_assoc, arith}
use Rattle.std.proofs.lemmas.Bool.Decides.{nat_tests}
use Rattle.std.specs.Prelude.{codes}
use Rattle.lf_limits.specs.Limits.{most_nesting}
use Rattle.lf_syntax.specs.declared.leaf.Leaf.{Leaf}
use Rattle.lf_syntax.specs.declared.leaf.Leaf.TheVariants.{Number}
use Rattle.lf_syntax.specs.LeafLaws.{first_of_both, second_of_both}
use Rattle.lf_syntax.specs.Grammar.{Grammar, leaf, sequence, choice, star, again, word, joined, Each, Spells, Nested}
use Rattle.lf_syntax.specs.Cuts.{leaf_avoids, onto_first}
use Rattle.lf_syntax.specs.CutLaws.{Free, leaf-free}
use Rattle.lf_map.specs.declared.parts.Mode.{Mode}
use Rattle.lf_map.specs.declared.parts.Mode.TheVariants.{Outside, Inside, Escaped}
use Rattle.lf_map.specs.Letters.{mode_after, is_cut, parts_from, parts_of}
use Rattle.lf_map.specs.Map.{within, byte, int, slot_number, hex_digit, escaped, letter, string, plain, expr, offset, one, two, line, times, others, call, assign, IsAssign, IsMap}

-- the parts, with a text before the first of them
abbrev onto : List ℕ → List (List ℕ) → List (List ℕ)
onto [] ps = ps
onto (x ∷ w) ps = onto_first x (onto w ps)

onto-append : (u v : List ℕ) (ps : List (List ℕ)) → onto (u ++ v) ps ≡ onto u (onto v ps)
onto-append [] v ps = refl
onto-append (x ∷ u) v ps = ap (λ (qs : List (List ℕ)). onto_first x qs) (onto-append u v ps)

onto-empty : (u : List ℕ) (ps : List (List ℕ)) → onto u ([] ∷ ps) ≡ u ∷ ps
onto-empty [] ps = refl
onto-empty (x ∷ u) ps = ap (λ (qs : List (List ℕ)). onto_first x qs) (onto-empty u ps)

-- The text is passed over from the one mode to the other, and is cut nowhere.
record Passes (m n : Mode) (w : List ℕ) : Type 0 where
  passes : (rest : List ℕ) → parts_from m (w ++ rest) ≡ onto w (parts_from n rest)

nothing : (m : Mode) → Passes m m []
nothing m = record { passes = λ rest. refl }

both : (m k n : Mode) (u v : List ℕ) → Passes m k u → Passes k n v → Passes m n (u ++ v)
both m k n u v p q = record {
  passes = λ rest.
      ap (λ (w : List ℕ). parts_from m w) (append_assoc u v rest) ∙ p.passes (v ++ rest)
      ∙ ap (λ (ps : List (List ℕ)). onto u ps) (q.passes rest) ∙ sym (onto-append u v (parts_from n rest));
}

single : (m n : Mode) (b : ℕ) → is_cut m b ≡ false → mode_after m b ≡ n → Passes m n (b ∷ [])
single m n b h e = record {
  passes = λ rest.
      ap (λ (t : Bool). cond t ([] ∷ parts_from Outside rest) (onto_first b (parts_from (mode_after m b) rest))) h
      ∙ ap (λ (k : Mode). onto_first b (parts_from k rest)) e;
}

free_passes : (w : List ℕ) → Free 59 w → Free 34 w → Passes Outside Outside w
free_passes [] h k = nothing Outside
free_passes (x ∷ w) h k =
    both Outside Outside Outside (x ∷ []) w (single Outside Outside x h.0 (ap (λ (t : Bool). cond t Inside Outside) k.0)) (free_passes w h.1 k.1)

not-is : (x b : ℕ) → (x ≡ b → ⊥) → eqb x b ≡ false
not-is x b h = grind (arith, nat_tests)

is : (x b : ℕ) → x ≡ b → eqb x b ≡ true
is x b h = grind (arith, nat_tests)

-- a letter of a string that is neither quote nor backslash
in_string : (b : ℕ) → (b ≡ 34 → ⊥) → (b ≡ 92 → ⊥) → Passes Inside Inside (b ∷ [])
in_string b q s =
    single Inside Inside b refl
    (ap (λ (t : Bool). cond t Outside (cond (eqb b 92) Escaped Inside)) (not-is b 34 q) ∙ ap (λ (t : Bool). cond t Escaped Inside) (not-is b 92 s))

module _ (X : List ℕ → Type 0) where
  -- What the grammar spells is passed over from the one mode to the other.
  record Leads (m n : Mode) (g : Grammar) : Type 0 where
    leads : (w : List ℕ) → Spells X g w → Passes m n w

  after : (m k n : Mode) (a c : Grammar) → Leads m k a → Leads k n c → Leads m n (sequence a c)
  after m k n a c p q = record { leads = λ w h. subst (λ (v : List ℕ). Passes m n v) (sym h.2) (both m k n h.0 h.1 (p.leads h.0 h.3) (q.leads h.1 h.4)) }

  either : (m n : Mode) (a c : Grammar) → Leads m n a → Leads m n c → Leads m n (choice a c)
  either m n a c p q = record { leads = λ w h. elim h [ inl y ↦ p.leads w y | inr y ↦ q.leads w y ] }

  each_passes : (m : Mode) (a : Grammar) → Leads m m a → (ws : List (List ℕ)) → Each (Spells X a) ws → Passes m m (joined ws)
  each_passes m a p [] h = nothing m
  each_passes m a p (w ∷ ws) h = both m m m w (joined ws) (p.leads w h.0) (each_passes m a p ws h.1)

  any : (m : Mode) (a : Grammar) → Leads m m a → Leads m m (star a)
  any m a p = record { leads = λ w h. subst (λ (v : List ℕ). Passes m m v) (sym h.1) (each_passes m a p h.0 h.2) }

  of_bytes : (m n : Mode) (low high : ℕ) → ((b : ℕ) → low ≤ b → b ≤ high → Passes m n (b ∷ [])) → Leads m n (within low high)
  of_bytes m n low high f = record { leads = λ w h. subst (λ (v : List ℕ). Passes m n v) (sym h.1) (f h.0 h.2 h.3) }

  of_leaf : (l : Leaf) → leaf_avoids 59 l ≡ true → leaf_avoids 34 l ≡ true → Leads Outside Outside (leaf l)
  of_leaf l h k = record { leads = λ w s. free_passes w (leaf-free 59 l w h s) (leaf-free 34 l w k s) }

  -- a grammar without strings and calls
  abbrev simple : Grammar → Bool
  simple (leaf l) = leaf_avoids 59 l && leaf_avoids 34 l
  simple (sequence a c) = simple a && simple c
  simple (choice a c) = simple a && simple c
  simple (star a) = simple a
  simple again = false

  of_simple : (g : Grammar) → simple g ≡ true → Leads Outside Outside g
  of_simple (leaf l) e = of_leaf l (first_of_both (leaf_avoids 59 l) (leaf_avoids 34 l) e) (second_of_both (leaf_avoids 59 l) (leaf_avoids 34 l) e)
  of_simple (sequence a c) e = after Outside Outside Outside a c (of_simple a (first_of_both (simple a) (simple c) e)) (of_simple c (second_of_both (simple a) (simple c) e))
  of_simple (choice a c) e = either Outside Outside a c (of_simple a (first_of_both (simple a) (simple c) e)) (of_simple c (second_of_both (simple a) (simple c) e))
  of_simple (star a) e = any Outside a (of_simple a e)
  of_simple again e = absurd (cc)

  in_string_bytes : (low high : ℕ) → ((b : ℕ) → low ≤ b → b ≤ high → b ≡ 34 → ⊥) → ((b : ℕ) → low ≤ b → b ≤ high → b ≡ 92 → ⊥) → Leads Inside Inside (within low high)
  in_string_bytes low high q s = of_bytes Inside Inside low high (λ b l h. in_string b (q b l h) (s b l h))

  hex_leads : Leads Inside Inside hex_digit
  hex_leads =
      either Inside Inside (within 48 57) (choice (within 65 70) (within 97 102))
      (in_string_bytes 48 57 (λ b l h e. omega (arith, l, h, e)) (λ b l h e. omega (arith, l, h, e)))
      (either Inside Inside (within 65 70) (within 97 102)
      (in_string_bytes 65 70 (λ b l h e. omega (arith, l, h, e)) (λ b l h e. omega (arith, l, h, e)))
      (in_string_bytes 97 102 (λ b l h e. omega (arith, l, h, e)) (λ b l h e. omega (arith, l, h, e))))

  after_backslash : (b : ℕ) → Leads Escaped Inside (byte b)
  after_backslash b = of_bytes Escaped Inside b b (λ x l h. single Escaped Inside x refl refl)

  escaped_leads : Leads Escaped Inside escaped
  escaped_leads =
      either Escaped Inside (byte 34) (choice (byte 92) (sequence (byte 120) (sequence hex_digit hex_digit))) (after_backslash 34)
      (either Escaped Inside (byte 92) (sequence (byte 120) (sequence hex_digit hex_digit)) (after_backslash 92)
      (after Escaped Inside Inside (byte 120) (sequence hex_digit hex_digit) (after_backslash 120) (after Inside Inside Inside hex_digit hex_digit hex_leads hex_leads)))

  backslash : (b : ℕ) → b ≡ 92 → Passes Inside Escaped (b ∷ [])
  backslash b e =
      single Inside Escaped b refl
      (ap (λ (t : Bool). cond t Outside (cond (eqb b 92) Escaped Inside)) (not-is b 34 (λ f. omega (arith, e, f))) ∙ ap (λ (t : Bool). cond t Escaped Inside) (is b 92 e))

  letter_leads : Leads Inside Inside letter
  letter_leads =
      either Inside Inside (within 32 33) (choice (within 35 91) (choice (within 93 126) (sequence (byte 92) escaped)))
      (in_string_bytes 32 33 (λ b l h e. omega (arith, l, h, e)) (λ b l h e. omega (arith, l, h, e)))
      (either Inside Inside (within 35 91) (choice (within 93 126) (sequence (byte 92) escaped))
      (in_string_bytes 35 91 (λ b l h e. omega (arith, l, h, e)) (λ b l h e. omega (arith, l, h, e)))
      (either Inside Inside (within 93 126) (sequence (byte 92) escaped)
      (in_string_bytes 93 126 (λ b l h e. omega (arith, l, h, e)) (λ b l h e. omega (arith, l, h, e)))
      (after Inside Escaped Inside (byte 92) escaped (of_bytes Inside Escaped 92 92 (λ b l h. backslash b (omega (arith, l, h)))) escaped_leads)))

  opening : (b : ℕ) → b ≡ 34 → Passes Outside Inside (b ∷ [])
  opening b e = single Outside Inside b (not-is b 59 (λ f. omega (arith, e, f))) (ap (λ (t : Bool). cond t Inside Outside) (is b 34 e))

  closing : (b : ℕ) → b ≡ 34 → Passes Inside Outside (b ∷ [])
  closing b e = single Inside Outside b refl (ap (λ (t : Bool). cond t Outside (cond (eqb b 92) Escaped Inside)) (is b 34 e))

  string_leads : Leads Outside Outside string
  string_leads =
      after Outside Inside Outside (byte 34) (sequence (star letter) (byte 34)) (of_bytes Outside Inside 34 34 (λ b l h. opening b (omega (arith, l, h))))
      (after Inside Inside Outside (star letter) (byte 34) (any Inside letter letter_leads) (of_bytes Inside Outside 34 34 (λ b l h. closing b (omega (arith, l, h)))))

  module _ (nested : (w : List ℕ) → X w → Passes Outside Outside w) where
    expr_leads : Leads Outside Outside expr
    expr_leads =
        either Outside Outside plain (choice string again) (of_simple plain refl)
        (either Outside Outside string again string_leads (record { leads = nested }))

    one_leads : (name : List ℕ) → simple (word name) ≡ true → Leads Outside Outside (one name)
    one_leads name e =
        after Outside Outside Outside (word name) (sequence expr (byte 41)) (of_simple (word name) e)
        (after Outside Outside Outside expr (byte 41) expr_leads (of_simple (byte 41) refl))

    two_leads : (name : List ℕ) (second : Grammar) → simple (word name) ≡ true → Leads Outside Outside second → Leads Outside Outside (two name second)
    two_leads name second e p =
        after Outside Outside Outside (word name) (sequence expr (sequence (byte 44) (sequence second (byte 41)))) (of_simple (word name) e)
        (after Outside Outside Outside expr (sequence (byte 44) (sequence second (byte 41))) expr_leads
        (after Outside Outside Outside (byte 44) (sequence second (byte 41)) (of_simple (byte 44) refl)
        (after Outside Outside Outside second (byte 41) p (of_simple (byte 41) refl))))

    line_leads : Leads Outside Outside line
    line_leads =
        after Outside Outside Outside (word (codes "line(")) (sequence expr (sequence (byte 44) (sequence expr (sequence (byte 44) (sequence expr (byte 41)))))) (of_simple (word (codes "line(")) refl)
        (after Outside Outside Outside expr (sequence (byte 44) (sequence expr (sequence (byte 44) (sequence expr (byte 41))))) expr_leads
        (after Outside Outside Outside (byte 44) (sequence expr (sequence (byte 44) (sequence expr (byte 41)))) (of_simple (byte 44) refl)
        (after Outside Outside Outside expr (sequence (byte 44) (sequence expr (byte 41))) expr_leads
        (after Outside Outside Outside (byte 44) (sequence expr (byte 41)) (of_simple (byte 44) refl)
        (after Outside Outside Outside expr (byte 41) expr_leads (of_simple (byte 41) refl))))))

    abbrev among : Grammar → Grammar → Type 0
    among a c = Leads Outside Outside a → Leads Outside Outside c → Leads Outside Outside (choice a c)

    among_two : (a c : Grammar) → among a c
    among_two a c = either Outside Outside a c

    times_leads : Leads Outside Outside times
    times_leads =
        among_two (one (codes "utc(")) (choice (one (codes "sec(")) (choice (one (codes "date(")) (choice (one (codes "clock(")) (choice (one (codes "epoch(")) (one (codes "msec(")))))) (one_leads (codes "utc(") refl)
        (among_two (one (codes "sec(")) (choice (one (codes "date(")) (choice (one (codes "clock(")) (choice (one (codes "epoch(")) (one (codes "msec("))))) (one_leads (codes "sec(") refl)
        (among_two (one (codes "date(")) (choice (one (codes "clock(")) (choice (one (codes "epoch(")) (one (codes "msec(")))) (one_leads (codes "date(") refl)
        (among_two (one (codes "clock(")) (choice (one (codes "epoch(")) (one (codes "msec("))) (one_leads (codes "clock(") refl)
        (among_two (one (codes "epoch(")) (one (codes "msec(")) (one_leads (codes "epoch(") refl) (one_leads (codes "msec(") refl)))))

    abbrev divided : Grammar
    divided = two (codes "div(") (leaf (Number false 9223372036854775807))

    abbrev multiplied : Grammar
    multiplied = two (codes "mul(") int

    others_leads : Leads Outside Outside others
    others_leads =
        among_two (two (codes "or(") expr) (choice (two (codes "at(") expr) (choice (two (codes "zoned(") offset) (choice (two (codes "part(") (within 49 57)) (choice divided multiplied)))) (two_leads (codes "or(") expr refl expr_leads)
        (among_two (two (codes "at(") expr) (choice (two (codes "zoned(") offset) (choice (two (codes "part(") (within 49 57)) (choice divided multiplied))) (two_leads (codes "at(") expr refl expr_leads)
        (among_two (two (codes "zoned(") offset) (choice (two (codes "part(") (within 49 57)) (choice divided multiplied)) (two_leads (codes "zoned(") offset refl (of_simple offset refl))
        (among_two (two (codes "part(") (within 49 57)) (choice divided multiplied) (two_leads (codes "part(") (within 49 57) refl (of_simple (within 49 57) refl))
        (among_two divided multiplied (two_leads (codes "div(") (leaf (Number false 9223372036854775807)) refl (of_simple (leaf (Number false 9223372036854775807)) refl)) (two_leads (codes "mul(") int refl (of_simple int refl))))))

    call_leads : Leads Outside Outside call
    call_leads = among_two times (choice others line) times_leads (among_two others line others_leads line_leads)

    assign_leads : Leads Outside Outside assign
    assign_leads =
        after Outside Outside Outside (byte 115) (sequence slot_number (sequence (byte 61) expr)) (of_simple (byte 115) refl)
        (after Outside Outside Outside slot_number (sequence (byte 61) expr) (of_simple slot_number refl)
        (after Outside Outside Outside (byte 61) expr (of_simple (byte 61) refl) expr_leads))

nested_passes : (depth : ℕ) (w : List ℕ) → Nested call depth w → Passes Outside Outside w
nested_passes zero w h = absurd h
nested_passes (suc depth) w h = (call_leads (Nested call depth) (nested_passes depth)).leads w h

module _ (depth : ℕ) where
  abbrev X : List ℕ → Type 0
  X = Nested call depth

  assign_passes : (w : List ℕ) → Spells X assign w → Passes Outside Outside w
  assign_passes w h = (assign_leads X (nested_passes depth)).leads w h

  begun : (w : List ℕ) → Spells X (sequence (byte 59) assign) w → (z : List ℕ) × (w ≡ 59 ∷ z) × Spells X assign z
  begun w h =
      let y = h.3 in
      let e : y.0 ≡ 59 = let p = y.2 in let q = y.3 in omega arith in
      (h.1, h.2 ∙ ap (λ (x : List ℕ). x ++ h.1) y.1 ∙ ap (λ (c : ℕ). c ∷ h.1) e, h.4)

  cut-each : (ws : List (List ℕ)) (u : List ℕ) → Spells X assign u → Each (Spells X (sequence (byte 59) assign)) ws → Each (Spells X assign) (parts_of (u ++ joined ws))
  cut-each [] u p h =
      let e : parts_of (u ++ []) ≡ u ∷ [] = (assign_passes u p).passes [] ∙ onto-empty u [] in
      subst (λ (ps : List (List ℕ)). Each (Spells X assign) ps) (sym e) (p, tt)
  cut-each (w ∷ ws) u p h =
      let m = begun w h.0 in
      let e : parts_of (u ++ (w ++ joined ws)) ≡ u ∷ parts_of (m.0 ++ joined ws) =
      ap (λ (y : List ℕ). parts_of (u ++ (y ++ joined ws))) m.1 ∙ (assign_passes u p).passes (59 ∷ (m.0 ++ joined ws)) ∙ onto-empty u (parts_of (m.0 ++ joined ws)) in
      subst (λ (ps : List (List ℕ)). Each (Spells X assign) ps) (sym e) (p, cut-each ws m.0 m.2 h.1)

-- CUT: the parts of a map are assignments
pub map_parts : (text : List ℕ) → IsMap text → Each IsAssign (parts_of text)
map_parts text h =
    let m = h.4 in
    let e : text ≡ h.0 ++ joined m.0 = h.2 ∙ ap (λ (v : List ℕ). h.0 ++ v) m.1 in
    subst (λ (v : List ℕ). Each IsAssign (parts_of v)) (sym e) (cut-each most_nesting m.0 h.0 h.3 m.2)
