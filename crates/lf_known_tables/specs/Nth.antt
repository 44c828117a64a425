-- The machine of the byte lists whose byte at a place counted from the end is `a`.
use Rattle.std.specs.Prelude.{ℕ, ◌+◌, ltb, List, [], ◌∷◌, Bool, cond, ◌==◌}
use Rattle.lf_core.specs.declared.marked.Move.{Move}
use Rattle.lf_core.specs.Marked.{Machine}

-- a move without a mark
abbrev pub step : ℕ → Move
step to = record { mark = 0; to = to }

-- where the point is the first: a move that stays, and one to the next point where the byte is the letter; else one to
-- the next point, if there is one
abbrev pub listed : Bool → Bool → Bool → ℕ → List Move
listed first letter low point =
    cond first (step 0 ∷ cond letter (step 1 ∷ []) []) (cond low (step (point + 1) ∷ []) [])

-- the moves from a point on a byte
abbrev pub nth_moves : ℕ → ℕ → ℕ → List Move
nth_moves places point byte = listed (point == 0) (byte == 97) (ltb point places) point

abbrev pub nth_machine : ℕ → Machine
nth_machine places = record {
  count = places + 1;
  first = 0;
  moves = λ point byte. cond (ltb byte 256) (nth_moves places point byte) [];
  is_end = λ point. point == places;
}
