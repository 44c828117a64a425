use Rattle.std.proofs.Common.{◌≡◌, ℕ, ◌<◌, length, get_or, map}
use Rattle.lf_core.specs.Written.{machine_of}
use Rattle.lf_tables.specs.Tabled.{set_at}
use Rattle.lf_tables.specs.Movers.{AreMovers}
use Rattle.lf_tables.proofs.movers.Movers.new.Given as goal

abbrev pub invariant-loop-byte : goal.invariant-loop-byte
invariant-loop-byte l = (length l.lists.items ≡ l.byte-index)
    × ((k : ℕ) → k < l.byte-index → AreMovers (machine_of l.table) (get_or l.firsts k 0) (machine_of l.table).count (set_at (map (λ v. v.items) l.lists.items) k))
