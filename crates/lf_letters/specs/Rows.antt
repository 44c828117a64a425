-- Sets of bytes as rows of bits.
use Rattle.std.specs.Prelude.{◌≡◌, ℕ, ◌<◌, ◌/◌, ◌%◌, ◌==◌, Bool, true, false, not, if◌then◌else◌, List, [], ◌∷◌, slice_index, slice_index_or, bit_and}
use Rattle.std.specs.Int.{w64, trailing_zeros}

-- the bit of each high half of a byte
abbrev pub high_bits : List ℕ
high_bits = 1 ∷ 2 ∷ 4 ∷ 8 ∷ 16 ∷ 32 ∷ 64 ∷ 128 ∷ 0 ∷ 0 ∷ 0 ∷ 0 ∷ 0 ∷ 0 ∷ 0 ∷ 0 ∷ []

-- whether the byte's bit is set in the row of its low half
abbrev pub row_holds : List ℕ → ℕ → Bool
row_holds rows letter = not (bit_and (slice_index rows (letter % 16)) (slice_index high_bits (letter / 16)) == 0)

-- Each byte that has its bit is marked.
abbrev pub AreWithin : List ℕ → List Bool → Type 0
AreWithin rows marks = (b : ℕ) → b < 256 → row_holds rows b ≡ true → slice_index_or marks b false ≡ true

-- the place of the lowest bit that is set, or n
abbrev pub first_set : ℕ → ℕ → ℕ
first_set mask n = if mask == 0 then n else trailing_zeros w64 mask
