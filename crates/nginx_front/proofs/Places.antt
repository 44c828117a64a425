-- Places in a directive.
use Rattle.std.proofs.Common.{◌≡◌, ℕ, zero, suc, ◌-◌, cond, List, [], ◌∷◌, Some, None, refl, sym, ap, ◌∙◌, arith}
use Rattle.std.specs.List.{slice_get}
use Rattle.std.proofs.Math.Dec.{eqb-suc-zero}
use Rattle.nginx_front.specs.declared.strings.Placed.{Placed}
use Rattle.nginx_front.specs.Whole.{place_of}

place_later : (x : Placed) (given : List Placed) (at : ℕ) → place_of (x ∷ given) (suc at) ≡ place_of given at
place_later x given at =
    let less : suc at - 1 ≡ at = omega arith in
    ap (λ v. cond v x.place (place_of given (suc at - 1))) (eqb-suc-zero at) ∙ ap (place_of given) less

-- the place of a byte that is there
pub place_there : (given : List Placed) (at : ℕ) (one : Placed) → slice_get given at ≡ Some one → one.place ≡ place_of given at
place_there [] at one is = absurd cc
place_there (x ∷ given) zero one is = let same : x ≡ one = cc in ap (λ (p : Placed). p.place) (sym same)
place_there (x ∷ given) (suc at) one is = place_there given at one is ∙ sym (place_later x given at)

-- past the last byte there is none
pub place_past : (given : List Placed) (at : ℕ) → slice_get given at ≡ None → 0 ≡ place_of given at
place_past [] at is = refl
place_past (x ∷ given) zero is = absurd cc
place_past (x ∷ given) (suc at) is = place_past given at is ∙ sym (place_later x given at)
