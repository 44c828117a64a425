use Rattle.std.proofs.Common.{◌≡◌, ℕ, ◌<◌, false}
use Rattle.std.specs.Prelude.{slice_index}
use Rattle.lf_core.specs.Written.{is_end_at}
use Rattle.lf_tables.proofs.search.end_among.Given as goal

abbrev pub invariant-loop-place : goal.invariant-loop-place
invariant-loop-place l = (k : ℕ) → k < l.place → is_end_at l.table (slice_index l.points k) ≡ false
