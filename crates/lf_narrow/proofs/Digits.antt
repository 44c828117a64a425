-- A number is at least what its first digits say.
use Rattle.std.proofs.Common.{◌≡◌, ℕ, ◌+◌, ◌-◌, ◌*◌, ◌<◌, ◌≤◌, inl, inr, eqb, Bool, false, cond, None, Some, refl, List, [], ◌∷◌, length, get_or, drop, sym, subst, arith}
use Rattle.lf_syntax.specs.Leaf.{value_from, IsNumber}
use Rattle.lf_syntax.specs.LeafLaws.{grows}
use Rattle.lf_narrow.proofs.Cutting.{drop-next}
use Rattle.std.proofs.lemmas.Bool.Decides.{nat_tests}
use Rattle.lf_limits.specs.Limits.{most_length}
use Rattle.lf_syntax.specs.Cuts.{front_of}
use Rattle.lf_narrow.specs.Terms.{number_of, slot_of, upper_of}
use Rattle.lf_narrow.specs.Fits.{IsUpper}

pub digit_room : (v : ℕ) (text : List ℕ) (i : ℕ) → i < length text → value_from v (drop i text) ≡ value_from 0 text → 10 * v + (get_or text i 0 - 48) ≤ value_from 0 text
digit_room v text i below e =
    let whole : value_from (10 * v + (get_or text i 0 - 48)) (drop (i + 1) text) ≡ value_from 0 text = subst (λ (w : List ℕ). value_from v w ≡ value_from 0 text) (drop-next text i below) e in
    subst (λ (n : ℕ). 10 * v + (get_or text i 0 - 48) ≤ n) whole (grows (10 * v + (get_or text i 0 - 48)) (drop (i + 1) text))

pub number_bound : (lone : Bool) (limit : ℕ) (w : List ℕ) → IsNumber lone limit w → number_of w ≤ limit
number_bound lone limit [] h = absurd h
number_bound lone limit (d ∷ w) (inl h) =
    let zero_is : value_from 0 (d ∷ w) ≡ 0 = subst (λ (v : List ℕ). value_from 0 (d ∷ v) ≡ 0) (sym h.2) (let e : d ≡ 48 = h.0 in omega (arith, e)) in
    omega (arith, zero_is)
number_bound lone limit (d ∷ w) (inr h) = subst (λ (n : ℕ). value_from n w ≤ limit) (first d) h.2.1
  where
    first : (d : ℕ) → d - 48 ≡ 10 * 0 + (d - 48)
    first d = omega arith

-- a slot's number, and an upper bound, where they are bounded
pub slot_bound : (b : ℕ) (w text : List ℕ) → text ≡ b ∷ w → (b ≡ 42 → ⊥) → IsUpper (slot_of text) → number_of (front_of 58 w) ≤ most_length
slot_bound b w text e other h =
    let k : IsUpper (slot_of (b ∷ w)) = subst (λ (v : List ℕ). IsUpper (slot_of v)) e h in
    let f : eqb b 42 ≡ false = grind (arith, nat_tests, other) in
    let g : IsUpper (Some (number_of (front_of 58 w))) = subst (λ (t : Bool). IsUpper (cond t None (Some (number_of (front_of 58 w))))) f k in
    g (number_of (front_of 58 w)) refl

pub upper_bound : (text : List ℕ) → (text ≡ [] → ⊥) → IsUpper (upper_of text) → number_of text ≤ most_length
upper_bound [] other h = absurd (other refl)
upper_bound (b ∷ w) other h = h (number_of (b ∷ w)) refl
