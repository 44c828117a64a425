-- What one call of a source or a sink does.
use Rattle.std.specs.Prelude.{ℕ, List, [], ◌≤◌, length, take, Option}
use Rattle.lf_core.specs.Adds.{BeginsWith}
use Rattle.lf_io.specs.Moves.{Takes, Gets, IsAtEnd}
use Rattle.lf_io.specs.declared.source.Pulled.{Pulled}
use Rattle.lf_io.specs.declared.source.Pulled.TheVariants as pulled
use Rattle.lf_io.specs.declared.sink.Pushed.{Pushed}
use Rattle.lf_io.specs.declared.sink.Pushed.TheVariants as pushed
use Rattle.lf_io.specs.declared.sink.Put.{Put}
use Rattle.lf_io.specs.declared.sink.Put.TheVariants as put

-- A pull takes a byte or more, which the buffer begins with. It tells the end only where no byte is left.
abbrev pub Pulls : Option (List ℕ) → Option (List ℕ) → List ℕ → Pulled → Type 0
Pulls old new into (pulled.Took n) = (1 ≤ n) × (n ≤ length into) × Takes old new (take n into)
Pulls old new into pulled.End = IsAtEnd old × Takes old new []
Pulls old new into pulled.Failed = Takes old new []

-- A push adds a byte or more of the piece's start.
abbrev pub Pushes : Option (List ℕ) → Option (List ℕ) → List ℕ → Pushed → Type 0
Pushes old new piece (pushed.Took n) = (1 ≤ n) × (n ≤ length piece) × Gets old new (take n piece)
Pushes old new piece pushed.Failed = Gets old new []

-- All of the text was added, or a prefix of it.
abbrev pub Puts : Option (List ℕ) → Option (List ℕ) → List ℕ → Put → Type 0
Puts old new text put.Done = Gets old new text
Puts old new text put.Failed = (part : List ℕ) × BeginsWith text part × Gets old new part
