-- The radix of padded numbers, as a number.
use Rattle.std.specs.Prelude.{ℕ}
use Rattle.lf_number.specs.declared.padded.Radix.{Radix}
use Rattle.lf_number.specs.declared.padded.Radix.TheVariants.{Ten, Sixteen}

-- the number of digits of a radix
abbrev pub radix_of : Radix → ℕ
radix_of Ten = 10
radix_of Sixteen = 16
