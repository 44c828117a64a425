-- The numbers of the product's limits. Definitions and contracts cite them by these names alone.
use Rattle.std.specs.Prelude.{ℕ}

-- The most bytes of a line that isn't long, its end left out.
abbrev pub most_line_bytes : ℕ
most_line_bytes = 16777216

-- The greatest size of a format that is compiled.
abbrev pub most_size : ℕ
most_size = 8192

-- The most slots of a format.
abbrev pub most_slots : ℕ
most_slots = 128

-- The most bytes of a word of the command line.
abbrev pub most_word_bytes : ℕ
most_word_bytes = 1048576

-- The most bytes of a text that a front, a narrowing or a field map is read from.
abbrev pub most_text_bytes : ℕ
most_text_bytes = 1048576

-- The most bytes of a format's literals together.
abbrev pub most_literal_bytes : ℕ
most_literal_bytes = 1048576

-- The most bytes of a list's words together.
abbrev pub most_list_bytes : ℕ
most_list_bytes = 1000000

-- The greatest bound of a text's length.
abbrev pub most_length : ℕ
most_length = 99999

-- The most jobs that share the lines of a batch.
abbrev pub most_jobs : ℕ
most_jobs = 64

-- The most sets of points of a reading table.
abbrev pub most_sets : ℕ
most_sets = 65536

-- The most calls of a field map in one another.
abbrev pub most_nesting : ℕ
most_nesting = 16

-- The most records that are generated.
abbrev pub most_records : ℕ
most_records = 1000000

-- The most bytes that one run takes from its source, 2 to the power 62.
abbrev pub most_run_bytes : ℕ
most_run_bytes = 4611686018427387904

-- The bytes of the buffer that holds the lines of a stream.
abbrev pub buffer_bytes : ℕ
buffer_bytes = 33554432

-- The room that the buffer has at least where no whole line is held.
abbrev pub least_room : ℕ
least_room = 3000000

-- The most lines of a batch.
abbrev pub most_marks : ℕ
most_marks = 1024
