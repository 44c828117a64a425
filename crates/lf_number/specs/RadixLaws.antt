-- The digits of each radix of padded numbers have letters.
use Rattle.std.proofs.Common.{arith}
use Rattle.lf_number.specs.declared.padded.Radix.{Radix}
use Rattle.lf_number.specs.declared.padded.Radix.TheVariants.{Ten, Sixteen}
use Rattle.lf_number.specs.Numbers.{IsRadix}
use Rattle.lf_number.specs.Radix.{radix_of}

pub radix_is : (radix : Radix) → IsRadix (radix_of radix)
radix_is Ten = record { least = omega arith; most = omega arith }
radix_is Sixteen = record { least = omega arith; most = omega arith }
