-- A text that has been passed over byte by byte, up to the first of one kind.
use Rattle.std.proofs.Common.{◌≡◌, ℕ, ◌+◌, ◌<◌, Bool, cond, eqb, true, false, List, [], ◌∷◌, ◌++◌, length, get_or, take, drop, refl, sym, ap, ◌∙◌, append-nil, append_assoc, add-one, arith}
use Rattle.std.proofs.lemmas.Bool.Decides.{nat_tests}
use Rattle.std.proofs.lemmas.List.{take_more}
use Rattle.std.proofs.Math.Seq.{drop-cons, drop-length}
use Rattle.lf_syntax.specs.Cuts.{front_of, from_first}

pub record Passed (b : ℕ) (text : List ℕ) (i : ℕ) : Type 0 where
  pub front : front_of b text ≡ take i text ++ front_of b (drop i text)
  pub rest : from_first b text ≡ from_first b (drop i text)

eqb-not : (x b : ℕ) → (x ≡ b → ⊥) → eqb x b ≡ false
eqb-not x b h = grind (arith, nat_tests)

eqb-same : (x b : ℕ) → x ≡ b → eqb x b ≡ true
eqb-same x b h = grind (arith, nat_tests)

pub nothing_left : (w : List ℕ) → length w ≡ 0 → w ≡ []
nothing_left [] e = refl
nothing_left (x ∷ w) e = absurd (omega (arith, e))

pub drop-next : (text : List ℕ) (i : ℕ) → i < length text → drop i text ≡ get_or text i 0 ∷ drop (i + 1) text
drop-next text i below = drop-cons text i 0 below ∙ ap (λ (n : ℕ). get_or text i 0 ∷ drop n text) (sym (add-one i))

module _ (b : ℕ) (text : List ℕ) (i : ℕ) where
  pub pass : i < length text → (get_or text i 0 ≡ b → ⊥) → Passed b text i → Passed b text (i + 1)
  pass below other p =
      let f = eqb-not (get_or text i 0) b other in
      let e = drop-next text i below in
      record {
        front =
            p.front ∙ ap (λ (v : List ℕ). take i text ++ front_of b v) e
            ∙ ap (λ (y : Bool). take i text ++ cond y [] (get_or text i 0 ∷ front_of b (drop (i + 1) text))) f
            ∙ sym (append_assoc (take i text) (get_or text i 0 ∷ []) (front_of b (drop (i + 1) text)))
            ∙ ap (λ (v : List ℕ). v ++ front_of b (drop (i + 1) text)) (sym (take_more text i 0 below));
        rest =
            p.rest ∙ ap (λ (v : List ℕ). from_first b v) e
            ∙ ap (λ (y : Bool). cond y (get_or text i 0 ∷ drop (i + 1) text) (from_first b (drop (i + 1) text))) f;
      }

  pub front_found : i < length text → get_or text i 0 ≡ b → Passed b text i → take i text ≡ front_of b text
  front_found below same p =
      sym (p.front ∙ ap (λ (v : List ℕ). take i text ++ front_of b v) (drop-next text i below)
      ∙ ap (λ (y : Bool). take i text ++ cond y [] (get_or text i 0 ∷ front_of b (drop (i + 1) text))) (eqb-same (get_or text i 0) b same)
      ∙ append-nil (take i text))

  pub rest_found : i < length text → get_or text i 0 ≡ b → Passed b text i → drop i text ≡ from_first b text
  rest_found below same p =
      let e = drop-next text i below in
      e ∙ sym (p.rest ∙ ap (λ (v : List ℕ). from_first b v) e
      ∙ ap (λ (y : Bool). cond y (get_or text i 0 ∷ drop (i + 1) text) (from_first b (drop (i + 1) text))) (eqb-same (get_or text i 0) b same))

-- no such byte is left at the end
pub front_whole : (b : ℕ) (text : List ℕ) → Passed b text (length text) → take (length text) text ≡ front_of b text
front_whole b text p = sym (p.front ∙ ap (λ (v : List ℕ). take (length text) text ++ front_of b v) (drop-length text) ∙ append-nil (take (length text) text))

pub rest_whole : (b : ℕ) (text : List ℕ) → Passed b text (length text) → drop (length text) text ≡ from_first b text
rest_whole b text p = drop-length text ∙ sym (p.rest ∙ ap (λ (v : List ℕ). from_first b v) (drop-length text))
