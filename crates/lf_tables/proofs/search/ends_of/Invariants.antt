use Rattle.std.proofs.Common.{◌≡◌, ℕ, ◌<◌, length, map, get_or, Option}
use Rattle.lf_core.specs.Written.{machine_of}
use Rattle.lf_tables.specs.Tabled.{set_at, IsEndOf}
use Rattle.lf_tables.proofs.search.ends_of.Given as goal

abbrev pub invariant-loop-points : goal.invariant-loop-points
invariant-loop-points l = record {
  each : length l.ends.items ≡ l.points-index;
  ended : (s : ℕ) (e : Option ℕ) → s < l.points-index → e ≡ get_or l.ends.items s e → IsEndOf (machine_of l.table) (set_at (map (λ v. v.items) l.lists) s) e;
}
