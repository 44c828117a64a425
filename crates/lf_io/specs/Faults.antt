-- Counts of faults.
use Rattle.std.specs.Prelude.{◌≡◌, ℕ, ◌+◌, ◌-◌, ◌^◌, ◌<◌, ◌≤◌, ◌⊎◌, min}

-- the last value of a counter
abbrev pub LAST : ℕ
LAST = 2 ^ 64 - 1

-- A counter one further. It stays at its last value once it is there.
abbrev pub one_more : ℕ → ℕ
one_more n = min (n + 1) LAST

-- A count rose in a call: it is greater at the exit than at the entry, or is the last value of a counter.
abbrev pub Rose : ℕ → ℕ → Type 0
Rose before now = (before < now) ⊎ (now ≡ LAST)

-- A count never falls, it rose where a failure is answered, and it stays where none is.
pub record HasCause (before now : ℕ) (failed : Type 0) : Type 0 where
  pub later : before ≤ now
  pub cause : failed → Rose before now
  pub kept : (failed → ⊥) → now ≡ before
