-- The number that digits spell, digit by digit.
use Rattle.std.proofs.Common.{◌≡◌, ℕ, zero, suc, ◌+◌, ◌-◌, ◌*◌, ◌^◌, ◌≤◌, ◌<◌, cond, leb, List, ◌∷◌, length, drop, get_or, sym, ap, ◌∙◌, arith}
use Rattle.std.proofs.Math.Nat.{add-mul, mul_assoc, mul_left_comm, pow-succ', pow-zero, le-mul_of_pos_right}
use Rattle.std.proofs.lemmas.List.{drop_more}
use Rattle.std.proofs.lemmas.Bool.{le-leb}
use Rattle.envoy_front.specs.Length.{value_of, number_of}

-- One digit more is read.
one_more : (v b : ℕ) (rest : List ℕ) → (10 * v + (b - 48)) * 10 ^ length rest + value_of rest ≡ v * 10 ^ length (b ∷ rest) + value_of (b ∷ rest)
one_more v b rest =
    let p : ℕ = 10 ^ length rest in
    let more : 10 ^ length (b ∷ rest) ≡ 10 * 10 ^ length rest = pow-succ' 10 (length rest) in
    let left : (10 * v + (b - 48)) * 10 ^ length rest ≡ 10 * v * 10 ^ length rest + (b - 48) * 10 ^ length rest = add-mul (10 * v) (b - 48) (10 ^ length rest) in
    let high : 10 * v * 10 ^ length rest ≡ v * (10 * 10 ^ length rest) = mul_assoc 10 v (10 ^ length rest) ∙ mul_left_comm 10 v (10 ^ length rest) in
    let same : v * 10 ^ length (b ∷ rest) ≡ v * (10 * 10 ^ length rest) = ap (λ (n : ℕ). v * n) more in
    omega (arith, left, high, same)

-- The byte at the place is read.
pub step : (digits : List ℕ) (i v d : ℕ) → i < length digits → d ≡ get_or digits i 0 - 48 → v * 10 ^ length (drop i digits) + value_of (drop i digits) ≡ value_of digits
    → (10 * v + d) * 10 ^ length (drop (i + 1) digits) + value_of (drop (i + 1) digits) ≡ value_of digits
step digits i v d inside d_is h =
    let cut : drop i digits ≡ get_or digits i 0 ∷ drop (i + 1) digits = drop_more digits i 0 inside in
    ap (λ (x : ℕ). (10 * v + x) * 10 ^ length (drop (i + 1) digits) + value_of (drop (i + 1) digits)) d_is
    ∙ one_more v (get_or digits i 0) (drop (i + 1) digits)
    ∙ sym (ap (λ (t : List ℕ). v * 10 ^ length t + value_of t) cut) ∙ h

pow_some : (k : ℕ) → 1 ≤ 10 ^ k
pow_some zero = omega (arith, pow-zero 10)
pow_some (suc k) = omega (arith, pow_some k, pow-succ' 10 k)

-- A number over the greatest stays over it.
pub over : (v : ℕ) (digits rest : List ℕ) → 65536 ≤ v → v * 10 ^ length rest + value_of rest ≡ value_of digits → 65536 ≡ number_of digits
over v digits rest big is =
    let grown : v ≤ v * 10 ^ length rest = le-mul_of_pos_right v (pow_some (length rest)) in
    let above : 65536 ≤ value_of digits = omega (arith, big, grown, is) in
    by_value (value_of digits) above
  where
    by_value : (n : ℕ) → 65536 ≤ n → 65536 ≡ cond (leb n 65536) n 65536
    by_value n h = grind (arith)

-- A number within it is the number.
pub within : (v : ℕ) (digits : List ℕ) → v ≤ 65535 → v ≡ value_of digits → v ≡ number_of digits
within v digits few is =
    let low : value_of digits ≤ 65536 = omega (arith, few, is) in
    is ∙ sym (ap (λ b. cond b (value_of digits) 65536) (le-leb (value_of digits) 65536 low))
