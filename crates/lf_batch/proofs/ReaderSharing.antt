-- Threads can share the parts of a reader.
use denote.Param.Send.{IsSync, sendable}
use Rattle.std.proofs.Crossing.{crosses}
use Rattle.lf_format.specs.contracts.format.Format as format
use Rattle.lf_scan.specs.contracts.plan.Plan as plan
use Rattle.lf_compile.specs.contracts.finder.Finder as finder

pub format_seen : IsSync format.the_row
format_seen = search (sendable, crosses) depth 60 fits 20000

plan_seen : IsSync plan.the_row
plan_seen = search (sendable, crosses) depth 60 fits 20000

pub finder_seen : IsSync finder.the_row
finder_seen = search (sendable, crosses, plan_seen) depth 60 fits 20000
