-- sets of bytes, as four words of 64 bits
use Rattle.std.specs.Prelude.{◌≡◌, ℕ, ◌/◌, ◌%◌, slice_index}
use Rattle.std.specs.Int.{bit_at}
use Rattle.lf_product.specs.declared.byte_set.ByteSet.{ByteSet}

-- the set has the byte
unfoldable pub HasByte : ByteSet → ℕ → Type 0
HasByte s b = bit_at (slice_index s.words (b / 64)) (b % 64) ≡ 1
