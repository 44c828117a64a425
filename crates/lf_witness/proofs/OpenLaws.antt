-- The least open move so far.
use Rattle.std.proofs.Common.{◌≡◌, ◌⊎◌, inl, inr, Bool, List, [], ◌∷◌, ◌++◌, Option, None, Some, refl, sym, subst, arith}
use Rattle.std.specs.Prelude.{Contains, IfSome}
use Rattle.std.proofs.lemmas.List.Elements.{Contains-push_cases, Contains-append_left, Contains-append_right}
use Rattle.lf_core.specs.declared.marked.Move.{Move}
use Rattle.lf_core.specs.Runs.{MoveLt, MoveLe}
use Rattle.lf_witness.specs.Open.{IsOpen, IsLeast, IsLeastOpen}

move_lt_trans : (x y z : Move) → MoveLt x y → MoveLt y z → MoveLt x z
move_lt_trans x y z (inl a) (inl b) = inl (omega (arith, a, b))
move_lt_trans x y z (inl a) (inr b) = inl (omega (arith, a, b.0))
move_lt_trans x y z (inr a) (inl b) = inl (omega (arith, a.0, b))
move_lt_trans x y z (inr a) (inr b) = inr (omega (arith, a.0, b.0), omega (arith, a.1, b.1))

pub move_le_trans : (x y z : Move) → MoveLe x y → MoveLe y z → MoveLe x z
move_le_trans x y z (inl a) (inl b) = inl (move_lt_trans x y z a b)
move_le_trans x y z (inl a) (inr e) = inl (subst (λ (w : Move). MoveLt x w) e a)
move_le_trans x y z (inr e) b = subst (λ (w : Move). MoveLe w z) (sym e) b

contains_last : (seen : List Move) (x : Move) → Contains (seen ++ x ∷ []) x
contains_last seen x = Contains-append_right seen (x ∷ []) x (zero_here x)
  where
    zero_here : (x : Move) → Contains (x ∷ []) x
    zero_here x = (0, omega arith, refl)

-- A move that isn't open changes nothing.
pub open_skip : (seen : List Move) (after : List Bool) (but : Option Move) (x : Move) (r : Option Move) → IsLeastOpen seen after but r → (IsOpen after but x → ⊥) → IsLeastOpen (seen ++ x ∷ []) after but r
open_skip seen after but x None h shut = λ y listed o.
    elim (Contains-push_cases seen x y listed) [ inl before ↦ h y before o | inr e ↦ shut (subst (λ (w : Move). IsOpen after but w) (sym e) o) ]
open_skip seen after but x (Some z) h shut = record {
  listed = Contains-append_left seen (x ∷ []) z h.listed;
  opens = h.opens;
  least = λ y listed o.
      elim (Contains-push_cases seen x y listed) [ inl before ↦ h.least y before o | inr e ↦ absurd (shut (subst (λ (w : Move). IsOpen after but w) (sym e) o)) ];
}

least_above : (seen : List Move) (after : List Bool) (but : Option Move) (z y : Move) (r : Option Move) → IsLeastOpen seen after but r → IfSome r (λ w. MoveLe z w) → Contains seen y → IsOpen after but y → MoveLe z y
least_above seen after but z y None h below listed o = absurd (h y listed o)
least_above seen after but z y (Some w) h below listed o = move_le_trans z w y below (h.least y listed o)

-- The lesser of an open move and the least so far.
pub open_more : (seen : List Move) (after : List Bool) (but : Option Move) (x z : Move) (r : Option Move) → IsLeastOpen seen after but r → IsOpen after but x → (z ≡ x) ⊎ (r ≡ Some z) → MoveLe z x → IfSome r (λ w. MoveLe z w) → IsLeast (seen ++ x ∷ []) after but z
open_more seen after but x z r h opens one below below_least = record {
  listed = elim one [ inl e ↦ subst (λ (w : Move). Contains (seen ++ x ∷ []) w) (sym e) (contains_last seen x) | inr e ↦ Contains-append_left seen (x ∷ []) z (some e).listed ];
  opens = elim one [ inl e ↦ subst (λ (w : Move). IsOpen after but w) (sym e) opens | inr e ↦ (some e).opens ];
  least = λ y listed o.
      elim (Contains-push_cases seen x y listed) [
        | inl before ↦ least_above seen after but z y r h below_least before o
        | inr e ↦ subst (λ (w : Move). MoveLe z w) e below
      ];
}
  where
    some : r ≡ Some z → IsLeast seen after but z
    some e = subst (λ (o : Option Move). IsLeastOpen seen after but o) e h
