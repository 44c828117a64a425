-- Letters that two classes share.
use Rattle.std.specs.Int.Bits.{bit_and}
use Rattle.lf_core.specs.declared.class.Class.{Class}
use Rattle.lf_core.specs.declared.class.TheConstants.Class as classes

-- the letters of both classes
abbrev pub both : Class → Class → Class
both a b = record { low = bit_and a.low b.low; high = bit_and a.high b.high }

-- the bytes of a header but the space
abbrev pub header_word : Class
header_word = both classes.HEADER classes.NO_SPACE
