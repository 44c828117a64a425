-- What a buffer holds.
use Rattle.std.specs.Prelude.{◌≡◌, ℕ, ◌+◌, ◌<◌, ◌≤◌, List, ◌∷◌, ◌++◌, Option, Some, None, slice_range}
use Rattle.lf_stream.specs.declared.buffer.Buffer.{Buffer}
use Rattle.lf_stream.specs.Cut.{HasNoFeed}

-- the bytes that are held
abbrev pub held_bytes : Buffer → List ℕ
held_bytes b = slice_range b.bytes.items b.start b.end

-- The place is that of the first line feed that is held.
pub record FeedsAt (b : Buffer) (at : ℕ) : Type 0 where
  pub from : b.start ≤ at
  pub to : at < b.end
  pub unended : HasNoFeed (slice_range b.bytes.items b.start at)
  pub joined : held_bytes b ≡ slice_range b.bytes.items b.start at ++ 10 ∷ slice_range b.bytes.items (at + 1) b.end

-- The place of the first line feed, if one is held.
abbrev pub Finds : Buffer → Option ℕ → Type 0
Finds b None = HasNoFeed (held_bytes b)
Finds b (Some at) = FeedsAt b at
