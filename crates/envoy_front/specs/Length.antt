-- The length of a command: the most letters that its text may have.
use Rattle.std.specs.Prelude.{ℕ, ◌+◌, ◌-◌, ◌*◌, ◌^◌, ◌≤◌, ◌==◌, ◌&&◌, not, nat_le, Bool, false, List, [], ◌∷◌, length, if◌then◌else◌}
use Rattle.std.proofs.Common.{leb, arith}
use Rattle.std.proofs.lemmas.Bool.{cond_both, leb-true}
use Rattle.lf_limits.specs.Limits.{most_length}

-- the number that digits spell: each digit stands for itself times ten for each digit after it
abbrev pub value_of : List ℕ → ℕ
value_of [] = 0
value_of (b ∷ digits) = (b - 48) * 10 ^ length digits + value_of digits

-- that number, and 65536 in the place of a greater one
abbrev pub number_of : List ℕ → ℕ
number_of digits = if nat_le (value_of digits) 65536 then value_of digits else 65536

-- a number from 1 to 65535 without leading zeros
abbrev pub is_length : List ℕ → Bool
is_length [] = false
is_length (b ∷ digits) = not (b == 48) && nat_le (number_of (b ∷ digits)) 65535

pub number_fits : (digits : List ℕ) → number_of digits ≤ most_length
number_fits digits = cond_both (leb (value_of digits) 65536) (value_of digits) 65536 (λ n. n ≤ most_length) (λ h. let few : value_of digits ≤ 65536 = leb-true (value_of digits) 65536 h in omega (arith, few)) (λ h. omega arith)
