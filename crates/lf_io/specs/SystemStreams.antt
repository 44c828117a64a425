-- Streams of the system and their counts of faults.
use Rattle.std.specs.Prelude.{ℕ, List, [], Option, take}
use Rattle.std.specs.Io.KnownBytes.{Consumes, Appends, IsAtEnd}
use Rattle.lf_io.specs.Faults.{one_more}
use Rattle.lf_io.specs.declared.source.Pulled.{Pulled}
use Rattle.lf_io.specs.declared.source.Pulled.TheVariants as pulled
use Rattle.lf_io.specs.declared.sink.Pushed.{Pushed}
use Rattle.lf_io.specs.declared.sink.Pushed.TheVariants as pushed
use Rattle.lf_io.specs.declared.system.StdSource.{StdSource}
use Rattle.lf_io.specs.declared.system.StdSink.{StdSink}

-- what a source reads from
abbrev pub reader : {R : Type 0} → StdSource R → R
reader s = s.from

-- a source's count of faults
abbrev pub source_faults : {R : Type 0} → StdSource R → ℕ
source_faults s = s.faults

-- what a sink writes to
abbrev pub writer : {W : Type 0} → StdSink W → W
writer s = s.to

-- a sink's count of faults
abbrev pub sink_faults : {W : Type 0} → StdSink W → ℕ
sink_faults s = s.faults

-- The count after a pull: one more where it failed.
abbrev pub faults_after_pull : ℕ → Pulled → ℕ
faults_after_pull faults (pulled.Took n) = faults
faults_after_pull faults pulled.End = faults
faults_after_pull faults pulled.Failed = one_more faults

-- The count after a push: one more where it failed.
abbrev pub faults_after_push : ℕ → Pushed → ℕ
faults_after_push faults (pushed.Took n) = faults
faults_after_push faults pushed.Failed = one_more faults

-- Where it is known what a reader still gives, a pull consumes what it took, and the end is told only at its end.
abbrev pub Reads : Option (List ℕ) → Option (List ℕ) → List ℕ → Pulled → Type 0
Reads old new into (pulled.Took n) = Consumes old new (take n into)
Reads old new into pulled.End = Consumes old new [] × IsAtEnd new
Reads old new into pulled.Failed = Consumes old new []

-- Where it is known what a writer holds, a push appends what it took, and nothing at a fault.
abbrev pub Writes : Option (List ℕ) → Option (List ℕ) → List ℕ → Pushed → Type 0
Writes old new piece (pushed.Took n) = Appends old new (take n piece)
Writes old new piece pushed.Failed = Appends old new []
