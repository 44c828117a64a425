-- Two machines side by side, as one.
use Rattle.std.specs.Prelude.{ℕ, ◌+◌, ◌-◌, ltb, cond, map}
use Rattle.lf_core.specs.declared.marked.Move.{Move}
use Rattle.lf_core.specs.Marked.{Machine}

-- the move leads so many points further
abbrev pub shifted : ℕ → Move → Move
shifted by x = record { mark = x.mark; to = by + x.to }

-- The points of the right machine are numbered on from those of the left one, where runs begin.
abbrev pub both : Machine → Machine → Machine
both left right = record {
  count = left.count + right.count;
  first = left.first;
  moves = λ p c. cond (ltb p left.count) (left.moves p c) (map (shifted left.count) (right.moves (p - left.count) c));
  is_end = λ p. cond (ltb p left.count) (left.is_end p) (right.is_end (p - left.count));
}
