-- What is read of a call.
use Rattle.std.proofs.Common.{◌≡◌, ℕ, zero, suc, ◌-◌, Bool, true, false, cond, List, drop, refl, sym, ap, ◌∙◌, arith}
use Rattle.std.specs.Prelude.{Option, None, codes}
use Rattle.std.specs.Str.{bytes_eq}
use Rattle.lf_syntax.specs.Cuts.{front_of, from_first}
use Rattle.lf_expression.specs.Exprs.{or_else, at_time}
use Rattle.lf_map.specs.Assigns.{Read, paired, line_call, one_call, read_next, call_by, plain_read, plain_or, expr_read}

one_more : (d : ℕ) → (d ≡ 0 → ⊥) → d ≡ suc (d - 1)
one_more zero h = absurd (h refl)
one_more (suc n) h = let i : n ≡ suc n - 1 = omega arith in ap (λ (k : ℕ). suc k) i

module _ (depth : ℕ) (text : List ℕ) (h : depth ≡ 0 → ⊥) (n : plain_read text ≡ None) (first : Read) (f : first ≡ expr_read (depth - 1) (drop 1 (from_first 40 text))) where
  abbrev deeper : List ℕ → Read
  deeper = expr_read (depth - 1)

  abbrev name : List ℕ
  name = front_of 40 text

  abbrev line_or_one : Read
  line_or_one = cond (bytes_eq name (codes "line")) (line_call first (read_next deeper first) (read_next deeper (read_next deeper first))) (one_call name first)

  abbrev at_or_other : Read
  at_or_other = cond (bytes_eq name (codes "at")) (paired at_time first (read_next deeper first)) line_or_one

  as_call : expr_read depth text ≡ call_by deeper name first
  as_call =
      ap (λ (d : ℕ). expr_read d text) (one_more depth h)
      ∙ ap (λ (o : Option Read). plain_or o (call_by deeper name (deeper (drop 1 (from_first 40 text))))) n
      ∙ ap (λ (r : Read). call_by deeper name r) (sym f)

  pub or_read : (second : Read) → bytes_eq name (codes "or") ≡ true → second ≡ read_next deeper first → paired or_else first second ≡ expr_read depth text
  or_read second b s =
      ap (λ (r : Read). paired or_else first r) s
      ∙ sym (ap (λ (t : Bool). cond t (paired or_else first (read_next deeper first)) at_or_other) b) ∙ sym as_call

  module _ (b : bytes_eq name (codes "or") ≡ false) where
    as_other : expr_read depth text ≡ at_or_other
    as_other = as_call ∙ ap (λ (t : Bool). cond t (paired or_else first (read_next deeper first)) at_or_other) b

    pub at_read : (second : Read) → bytes_eq name (codes "at") ≡ true → second ≡ read_next deeper first → paired at_time first second ≡ expr_read depth text
    at_read second a s =
        ap (λ (r : Read). paired at_time first r) s
        ∙ sym (ap (λ (t : Bool). cond t (paired at_time first (read_next deeper first)) line_or_one) a) ∙ sym as_other

    module _ (a : bytes_eq name (codes "at") ≡ false) where
      as_line : expr_read depth text ≡ line_or_one
      as_line = as_other ∙ ap (λ (t : Bool). cond t (paired at_time first (read_next deeper first)) line_or_one) a

      pub line_read : (second third : Read) → bytes_eq name (codes "line") ≡ true → second ≡ read_next deeper first → third ≡ read_next deeper second → line_call first second third ≡ expr_read depth text
      line_read second third l s r =
          ap (λ (x : Read). line_call first second x) r ∙ ap (λ (x : Read). line_call first x (read_next deeper x)) s
          ∙ sym (ap (λ (t : Bool). cond t (line_call first (read_next deeper first) (read_next deeper (read_next deeper first))) (one_call name first)) l) ∙ sym as_line

      pub one_read : bytes_eq name (codes "line") ≡ false → one_call name first ≡ expr_read depth text
      one_read l =
          sym (ap (λ (t : Bool). cond t (line_call first (read_next deeper first) (read_next deeper (read_next deeper first))) (one_call name first)) l) ∙ sym as_line
