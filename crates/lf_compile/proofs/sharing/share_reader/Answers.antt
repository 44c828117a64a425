use denote.Param.Send.{IsSend, IsSync, sendable}
use Rattle.std.proofs.Crossing.{crosses}
use Rattle.lf_format.specs.contracts.format.Format as format
use Rattle.lf_scan.specs.contracts.plan.Plan as plan
use Rattle.lf_compile.specs.contracts.finder.Finder as finder
use Rattle.lf_compile.proofs.sharing.share_reader.Goals as goal

format_sent : IsSend format.the_row
format_sent = search (sendable, crosses) depth 60 fits 20000

format_seen : IsSync format.the_row
format_seen = search (sendable, crosses) depth 60 fits 20000

plan_sent : IsSend plan.the_row
plan_sent = search (sendable, crosses) depth 60 fits 20000

plan_seen : IsSync plan.the_row
plan_seen = search (sendable, crosses) depth 60 fits 20000

finder_sent : IsSend finder.the_row
finder_sent = search (sendable, crosses, plan_sent) depth 60 fits 20000

finder_seen : IsSync finder.the_row
finder_seen = search (sendable, crosses, plan_seen) depth 60 fits 20000

pub shared-requires-send-T : goal.shared-requires-send-T
shared-requires-send-T c κs = search (sendable, crosses, finder_sent, format_sent) depth 20

pub shared-requires-sync-T : goal.shared-requires-sync-T
shared-requires-sync-T c κs = search (sendable, crosses, finder_seen, format_seen) depth 20
