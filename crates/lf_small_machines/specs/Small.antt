-- Small machines for tests: of each of six points, each byte and each move a flag says whether the move is there.
use Rattle.std.specs.Prelude.{ℕ, zero, suc, ◌+◌, ◌*◌, ◌/◌, ◌%◌, ltb, List, [], ◌∷◌, ◌++◌, Bool, cond}
use Rattle.lf_core.specs.declared.marked.Move.{Move}
use Rattle.lf_core.specs.Marked.{Machine}
use Rattle.lf_witness.specs.Sets.{has_point}

-- the moves by number: two marks times six points
abbrev pub move_of : ℕ → Move
move_of number = record { mark = number / 6; to = number % 6 }

-- the list with the move behind it where the flag is set
abbrev pub push_if : Bool → ℕ → List Move → List Move
push_if flag number moves = cond flag (moves ++ move_of number ∷ []) moves

-- the moves with lesser numbers that are there, by the flags from a place on
unfoldable pub moves_below : List Bool → ℕ → ℕ → List Move
moves_below flags at zero = []
moves_below flags at (suc number) = push_if (has_point flags (at + number)) number (moves_below flags at number)

-- the moves from a point on a byte
abbrev pub small_moves : List Bool → ℕ → ℕ → List Move
small_moves flags point byte = cond (ltb byte 256) (moves_below flags ((point * 256 + byte) * 12) 12) []

abbrev pub small_machine : ℕ → List Bool → List Bool → Machine
small_machine start flags ends = record { count = 6; first = start; moves = small_moves flags; is_end = has_point ends }
