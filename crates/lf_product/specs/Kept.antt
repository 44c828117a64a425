-- what a Pairs keeps
use Rattle.std.specs.Prelude.{◌≤◌}
use Rattle.lf_core.specs.Marked.{IsMachine}
use Rattle.lf_core.specs.Written.{machine_of}
use Rattle.lf_limits.specs.Limits.{most_size}
use Rattle.lf_product.specs.declared.pairs.Pairs.TheInside.{Inside}
use Rattle.lf_product.specs.declared.pages.TheConstants.{NONE}
use Rattle.lf_product.specs.Cells.{IsExact}
use Rattle.lf_product.specs.Level.{IsWhole}

pub record AreKept (p : Inside) : Type 0 where
  pub few : (machine_of p.table).count ≤ most_size
  pub lawful : IsMachine (machine_of p.table)
  pub whole : IsWhole (machine_of p.table) p.distances
  pub exact : IsExact (machine_of p.table) ((machine_of p.table).count) NONE p.distances
