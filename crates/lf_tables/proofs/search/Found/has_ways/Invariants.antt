use Rattle.std.proofs.Common.{◌≡◌, ℕ, ◌+◌, ◌<◌}
use Rattle.lf_tables.specs.Ways.{back_at}
use Rattle.lf_tables.proofs.search.Found.has_ways.Given as goal

abbrev pub invariant-loop-place : goal.invariant-loop-place
invariant-loop-place l = (k : ℕ) → k < l.place → back_at l.self.backs.items (l.start + k) ≡ back_at l.ways k
