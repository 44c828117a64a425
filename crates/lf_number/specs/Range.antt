-- Whether a number is in a range, by how its magnitude stands to those of the bounds.
use Rattle.std.proofs.Common.{◌≡◌, ℕ, suc, ◌≤◌, true, false, leb, ◌&&◌, arith}
use Rattle.std.specs.Prelude.{ℤ, pos, negsuc, ◌≤ℤ◌}
use Rattle.std.proofs.lemmas.Int.{ints}
use Rattle.std.proofs.lemmas.Bool.Decides.{nat_tests}
use Rattle.std.proofs.lemmas.Bool.{and_parts}
use Rattle.lf_number.specs.Numbers.{magnitude}
use Rattle.lf_number.specs.Machines.{comparison, in_range}

comparison-at_least : (p q : ℕ) → leb 1 (comparison p q) ≡ true → q ≤ p
comparison-at_least p q h = grind (arith, nat_tests)

comparison-at_most : (p q : ℕ) → leb (comparison p q) 1 ≡ true → p ≤ q
comparison-at_most p q h = grind (arith, nat_tests)

at_least-comparison : (p q : ℕ) → q ≤ p → leb 1 (comparison p q) ≡ true
at_least-comparison p q h = grind (arith, nat_tests)

at_most-comparison : (p q : ℕ) → p ≤ q → leb (comparison p q) 1 ≡ true
at_most-comparison p q h = grind (arith, nat_tests)

pub range-pos : (lo hi : ℤ) (n : ℕ) → in_range lo hi false (comparison n (magnitude lo)) (comparison n (magnitude hi)) ≡ true → (lo ≤ℤ pos n) × (pos n ≤ℤ hi)
range-pos (pos a) (pos b) n h =
    let k = and_parts _ _ h in
    let l = comparison-at_least n a k.0 in
    let m = comparison-at_most n b k.1 in
    (omega (arith, ints), omega (arith, ints))
range-pos (pos a) (negsuc b) n h = let k : false ≡ true = (and_parts (leb 1 (comparison n a)) false h).1 in cc
range-pos (negsuc a) (pos b) n h =
    let m = comparison-at_most n b h in
    (omega (arith, ints), omega (arith, ints))
range-pos (negsuc a) (negsuc b) n h = cc

pub pos-range : (lo hi : ℤ) (n : ℕ) → lo ≤ℤ pos n → pos n ≤ℤ hi → in_range lo hi false (comparison n (magnitude lo)) (comparison n (magnitude hi)) ≡ true
pos-range (pos a) (pos b) n l m =
    rw (at_least-comparison n a (omega (arith, ints)), at_most-comparison n b (omega (arith, ints)))
pos-range (pos a) (negsuc b) n l m = absurd (omega (arith, ints))
pos-range (negsuc a) (pos b) n l m = at_most-comparison n b (omega (arith, ints))
pos-range (negsuc a) (negsuc b) n l m = absurd (omega (arith, ints))

pub range-neg : (lo hi : ℤ) (n : ℕ) → in_range lo hi true (comparison (suc n) (magnitude lo)) (comparison (suc n) (magnitude hi)) ≡ true → (lo ≤ℤ negsuc n) × (negsuc n ≤ℤ hi)
range-neg (pos a) (pos b) n h = cc
range-neg (pos a) (negsuc b) n h = cc
range-neg (negsuc a) (pos b) n h =
    let k = and_parts _ _ h in
    let m = comparison-at_most (suc n) (suc a) k.0 in
    (omega (arith, ints), omega (arith, ints))
range-neg (negsuc a) (negsuc b) n h =
    let k = and_parts _ _ h in
    let l = comparison-at_most (suc n) (suc a) k.0 in
    let m = comparison-at_least (suc n) (suc b) k.1 in
    (omega (arith, ints), omega (arith, ints))

pub neg-range : (lo hi : ℤ) (n : ℕ) → lo ≤ℤ negsuc n → negsuc n ≤ℤ hi → in_range lo hi true (comparison (suc n) (magnitude lo)) (comparison (suc n) (magnitude hi)) ≡ true
neg-range (pos a) (pos b) n l m = absurd (omega (arith, ints))
neg-range (pos a) (negsuc b) n l m = absurd (omega (arith, ints))
neg-range (negsuc a) (pos b) n l m = rw (at_most-comparison (suc n) (suc a) (omega (arith, ints)))
neg-range (negsuc a) (negsuc b) n l m =
    rw (at_most-comparison (suc n) (suc a) (omega (arith, ints)), at_least-comparison (suc n) (suc b) (omega (arith, ints)))
