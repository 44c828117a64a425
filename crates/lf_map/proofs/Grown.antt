-- Forms that grow and are filled, and numbers that are cut off at their limit.
use Rattle.std.proofs.Common.{◌≡◌, ℕ, zero, suc, ◌+◌, ◌-◌, ◌*◌, ◌≤◌, length-append, take, drop, Bool, true, false, cond, min, List, [], ◌∷◌, ◌++◌, length, refl, sym, ap, ◌∙◌, add-one, arith}
use Rattle.std.specs.Prelude.{Option, None, Some}
use Rattle.std.proofs.Math.ListN.{set}
use Rattle.std.proofs.lemmas.List.{length-take, length-drop}
use Rattle.lf_syntax.specs.Leaf.{is_within}
use Rattle.lf_expression.specs.declared.expr.Expr.{Expr as CodeExpr}
use Rattle.lf_expression.specs.Exprs.{Expr, expr_said, exprs_said}
use Rattle.lf_map.specs.Letters.{digits_from}
use Rattle.lf_map.specs.Filling.{Form, blank, put, all_given}
use Rattle.lf_map.specs.Forms.{given_said, form_said}

pub form_more : (form : List (Option CodeExpr)) (one : Option CodeExpr) → form_said (form ++ one ∷ []) ≡ form_said form ++ given_said one ∷ []
form_more [] one = refl
form_more (first ∷ form) one = ap (λ (f : Form). given_said first ∷ f) (form_more form one)

pub blank_more : (k : ℕ) → blank k ++ None ∷ [] ≡ blank (suc k)
blank_more zero = refl
blank_more (suc k) = ap (λ (f : Form). None ∷ f) (blank_more k)

pub blank_next : (k : ℕ) → blank k ++ None ∷ [] ≡ blank (k + 1)
blank_next k = blank_more k ∙ ap (λ (n : ℕ). blank n) (sym (add-one k))

pub form_put : (form : List (Option CodeExpr)) (n : ℕ) (e : CodeExpr) → form_said (set form n (Some e)) ≡ put n (expr_said e) (form_said form)
form_put [] n e = refl
form_put (one ∷ form) zero e = refl
form_put (one ∷ form) (suc n) e = ap (λ (f : Form). given_said one ∷ f) (form_put form n e)

pub exprs_more : (es : List CodeExpr) (e : CodeExpr) → exprs_said (es ++ e ∷ []) ≡ exprs_said es ++ expr_said e ∷ []
exprs_more [] e = refl
exprs_more (first ∷ es) e = ap (λ (l : List Expr). expr_said first ∷ l) (exprs_more es e)

-- a number that is cut off stays so with further digits
pub cut_off : (a b : ℕ) (w : List ℕ) → min a 18446744073709551615 ≡ min b 18446744073709551615 → min (digits_from a w) 18446744073709551615 ≡ min (digits_from b w) 18446744073709551615
cut_off a b [] h = h
cut_off a b (d ∷ w) h =
    elim (is_within 48 57 d) as (λ t. min (cond t (digits_from (10 * a + (d - 48)) w) a) 18446744073709551615 ≡ min (cond t (digits_from (10 * b + (d - 48)) w) b) 18446744073709551615) [
      | true ↦ cut_off (10 * a + (d - 48)) (10 * b + (d - 48)) w (omega (arith, h))
      | false ↦ h
    ]

-- a form of so many slots with nothing given
pub record IsBlank (form : List (Option CodeExpr)) (k : ℕ) : Type 0 where
  pub count : length form ≡ k
  pub blank_is : form_said form ≡ blank k

pub blank_pushed : (form longer : List (Option CodeExpr)) (k : ℕ) → longer ≡ form ++ None ∷ [] → IsBlank form k → IsBlank longer (k + 1)
blank_pushed form longer k e b = record {
  count = ap (λ (f : List (Option CodeExpr)). length f) e ∙ length-append form (None ∷ []) ∙ ap (λ (n : ℕ). n + 1) b.count;
  blank_is =
      ap (λ (f : List (Option CodeExpr)). form_said f) e ∙ form_more form None
      ∙ ap (λ (f : Form). f ++ None ∷ []) b.blank_is ∙ blank_next k;
}

-- the number that a digit adds to
pub digit_on : (value d more : ℕ) (rest text : List ℕ) (result : ℕ) → text ≡ d ∷ rest → is_within 48 57 d ≡ true
    → min more 18446744073709551615 ≡ min (10 * value + (d - 48)) 18446744073709551615 → result ≡ min (digits_from more rest) 18446744073709551615
    → result ≡ min (digits_from value text) 18446744073709551615
digit_on value d more rest text result e w c h =
    h ∙ cut_off more (10 * value + (d - 48)) rest c
    ∙ ap (λ (t : Bool). min (cond t (digits_from (10 * value + (d - 48)) rest) value) 18446744073709551615) (sym w)
    ∙ ap (λ (v : List ℕ). min (digits_from value v) 18446744073709551615) (sym e)

given-append : (f g : Form) → all_given (f ++ g) ≡ all_given f ++ all_given g
given-append [] g = refl
given-append (None ∷ f) g = given-append f g
given-append (Some e ∷ f) g = ap (λ (es : List Expr). e ∷ es) (given-append f g)

pub all_given_push : (form : List (Option CodeExpr)) (one : Option CodeExpr) → all_given (form_said (form ++ one ∷ [])) ≡ all_given (form_said form) ++ all_given (given_said one ∷ [])
all_given_push form one = ap (λ (f : Form). all_given f) (form_more form one) ∙ given-append (form_said form) (given_said one ∷ [])

pub taken_short : (n : ℕ) (new old : List (Option CodeExpr)) (m : ℕ) → length new ≡ length old → length old ≤ m → length (take n (new ++ drop (length new) old)) ≤ m
taken_short n new old m e h =
    let t = length-take n (new ++ drop (length new) old) in
    let a = length-append new (drop (length new) old) in
    let d = length-drop (length new) old in
    omega (arith, t, a, d, e, h)
