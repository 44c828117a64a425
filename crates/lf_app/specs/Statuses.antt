-- The statuses that a run ends with. Definitions and contracts cite them by these names alone.
use Rattle.std.specs.Prelude.{ℕ}

-- The output was written, and nothing was listed.
abbrev pub done : ℕ
done = 0

-- The source format isn't readable.
abbrev pub ambiguous : ℕ
ambiguous = 1

-- The words, a format, a narrowing or a map is refused, or a record's line is a note.
abbrev pub usage : ℕ
usage = 2

-- The run ended, and a line was listed.
abbrev pub partial : ℕ
partial = 3

-- The source failed.
abbrev pub source_fault : ℕ
source_fault = 4

-- A sink failed.
abbrev pub sink_fault : ℕ
sink_fault = 5

-- Memory ran out.
abbrev pub no_memory : ℕ
no_memory = 6

-- The source format is larger than what is compiled.
abbrev pub too_large : ℕ
too_large = 7

-- As many bytes were taken as a run may take.
abbrev pub endless : ℕ
endless = 8
