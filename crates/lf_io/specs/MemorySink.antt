-- A list in memory as a sink of limited room that fails at listed calls.
use Rattle.std.specs.Prelude.{◌≡◌, ◌⊎◌, ℕ, ◌+◌, ◌<◌, List, ◌++◌, Contains, min, length, take}
use Rattle.lf_io.specs.Faults.{one_more}
use Rattle.lf_io.specs.declared.sink.Pushed.{Pushed}
use Rattle.lf_io.specs.declared.sink.Pushed.TheVariants as pushed

-- The bytes got, the most that a push takes, the numbers of the calls that fail, the most bytes that are held,
-- the number of the next call, and the count of faults.
pub record MemorySink : Type 0 where
  pub got : List ℕ
  pub piece : ℕ
  pub failing : List ℕ
  pub room : ℕ
  pub calls : ℕ
  pub faults : ℕ

-- how many bytes a push of so many would take: the lesser of the piece and the length
abbrev pub would_take : MemorySink → ℕ → ℕ
would_take s len = min s.piece len

-- After a push of so many bytes, more than the room would be held.
abbrev pub PassesRoom : MemorySink → ℕ → Type 0
PassesRoom s len = s.room < length s.got + would_take s len

-- The number of the next call is listed, or a push of so many bytes would pass the room.
abbrev pub FailsNext : MemorySink → ℕ → Type 0
FailsNext s len = Contains s.failing s.calls ⊎ PassesRoom s len

-- A push fails exactly where its number is listed or it would pass the room. Each other push takes what it would take.
abbrev pub Answers : MemorySink → ℕ → Pushed → Type 0
Answers s len (pushed.Took n) = (¬ FailsNext s len) × (n ≡ would_take s len)
Answers s len pushed.Failed = FailsNext s len

-- The sink after an answer: the call is counted, and so is a fault. A fault leaves the bytes as they were.
abbrev pub after_push : MemorySink → List ℕ → Pushed → MemorySink
after_push s piece (pushed.Took n) = record s { got = s.got ++ take n piece; calls = one_more s.calls }
after_push s piece pushed.Failed = record s { calls = one_more s.calls; faults = one_more s.faults }
