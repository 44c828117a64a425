-- Numbers of which the tables of the fronts speak.
use Rattle.std.specs.Prelude.{ℕ}

-- the greatest number of 63 bits
abbrev pub greatest : ℕ
greatest = 9223372036854775807
