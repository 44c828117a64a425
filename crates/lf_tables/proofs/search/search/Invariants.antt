use Rattle.std.proofs.Common.{◌≡◌, ◌*◌, ◌-◌, length, map}
use Rattle.lf_core.specs.Written.{machine_of}
use Rattle.lf_limits.specs.Limits.{most_sets}
use Rattle.lf_tables.specs.Tabled.{cells_of}
use Rattle.lf_tables.specs.Found.{AreNumbered, AreFound}
use Rattle.lf_tables.proofs.search.search.Given as goal

abbrev pub invariant-cells : goal.invariant-cells
invariant-cells l = record {
  numbered : AreNumbered (λ v. v.items) l.found.sets.numbers (map (λ v. v.items) l.found.sets.lists.items);
  found : AreFound (machine_of l.table) l.firsts (map (λ v. v.items) l.found.sets.lists.items) (cells_of l.found.nexts.items l.found.starts.items) l.found.backs.items;
  even : length l.found.nexts.items ≡ length l.found.starts.items;
}

abbrev pub decreases-cells : goal.decreases-cells
decreases-cells l = most_sets * length l.firsts - length l.found.nexts.items
