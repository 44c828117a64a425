-- Sums of points while a machine is laid out.
use Rattle.std.specs.Prelude.{ℕ}

-- No sum of points or marks passes this, which is far above the size of a format.
abbrev pub most_sum : ℕ
most_sum = 1048576
