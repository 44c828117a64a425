-- Classes of bytes.
use Rattle.std.specs.Prelude.{◌≡◌, ℕ, ◌<◌, ◌≤◌, List, length, slice_index}
use Rattle.lf_core.specs.Marked.{Machine}

-- No move from the first points, so many, tells the bytes apart: each has the same moves on both.
abbrev pub AreAlike : Machine → ℕ → ℕ → ℕ → Type 0
AreAlike machine many left right = (p : ℕ) → p < many → machine.moves p left ≡ machine.moves p right

-- By byte one that is no greater, and that no move from the first points, so many, tells from it.
pub record AreFirsts (machine : Machine) (many : ℕ) (firsts : List ℕ) : Type 0 where
  pub each : length firsts ≡ 256
  pub low : (b : ℕ) → b < 256 → slice_index firsts b ≤ b
  pub alike : (b : ℕ) → b < 256 → AreAlike machine many b (slice_index firsts b)

-- Each of the first bytes, so many, is in a class, and no move tells it from the first byte of its class.
pub record AreClasses (machine : Machine) (class_of firsts : List ℕ) (many : ℕ) : Type 0 where
  pub each : length class_of ≡ many
  pub few : length firsts ≤ many
  pub some : (b : ℕ) → b < many → slice_index class_of b < length firsts
  pub low : (k : ℕ) → k < length firsts → slice_index firsts k < 256
  pub alike : (b : ℕ) → b < many → AreAlike machine machine.count b (slice_index firsts (slice_index class_of b))
