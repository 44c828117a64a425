use Rattle.std.proofs.Common.{ℕ, ◌<◌, ◌≤◌, length}
use Rattle.lf_tables.specs.Ways.{to_at}
use Rattle.lf_tables.proofs.ways.place_for.Given as goal

abbrev pub invariant-places : goal.invariant-places
invariant-places l = record {
  within : l.at ≤ length l.backs;
  above : (k : ℕ) → l.at ≤ k → k < length l.backs → l.point ≤ to_at l.backs k;
}

abbrev pub decreases-places : goal.decreases-places
decreases-places l = l.at
