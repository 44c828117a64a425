use Rattle.std.proofs.Common.{◌≡◌, ℕ, ◌<◌, ◌≤◌, true}
use Rattle.lf_sets.specs.Forests.{point_at}
use Rattle.lf_sets.proofs.backward.end_place.Given as goal

abbrev pub invariant-loop-at : goal.invariant-loop-at
invariant-loop-at g l = (place : ℕ) → l.level ≤ place → place < l.at → (g.M.Marked.machine l.m).is_end (point_at l.nodes place) ≡ true → ⊥
