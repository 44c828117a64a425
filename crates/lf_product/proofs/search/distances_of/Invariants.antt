use Rattle.std.proofs.Common.{◌≤◌, ◌+◌, ◌*◌}
use Rattle.lf_product.specs.declared.pages.TheConstants.{NONE, PAGE}
use Rattle.lf_product.specs.Pages.{pages_for}
use Rattle.lf_core.specs.Written.{machine_of}
use Rattle.lf_product.specs.Level.{Reached, Complete, IsWhole, room}
use Rattle.lf_product.proofs.search.distances_of.Given as goal

abbrev pub invariant-levels : goal.invariant-levels
invariant-levels l = record {
  whole : IsWhole (machine_of l.table) l.distances;
  reached : Reached (machine_of l.table) ((machine_of l.table).count) NONE l.steps l.distances l.level.items;
  complete : Complete (machine_of l.table) ((machine_of l.table).count) l.steps l.distances;
  few : l.steps + room NONE l.distances l.level.items ≤ pages_for (machine_of l.table).count * PAGE;
}

abbrev pub decreases-levels : goal.decreases-levels
decreases-levels l = room NONE l.distances l.level.items
