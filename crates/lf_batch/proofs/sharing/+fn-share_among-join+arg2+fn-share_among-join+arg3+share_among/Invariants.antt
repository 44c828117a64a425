use Rattle.std.proofs.Common.{◌+◌, ◌*◌}
use Rattle.lf_batch.proofs.sharing.+fn-share_among-join+arg2+fn-share_among-join+arg3+share_among.Given as goal

abbrev pub decreases-join+arg2 : goal.decreases-join+arg2
decreases-join+arg2 g l = 2 * l.fewer.count + 1

abbrev pub decreases-join+arg3 : goal.decreases-join+arg3
decreases-join+arg3 g l = 2 * l.others.count + 1

abbrev pub decreases-share_among : goal.decreases-share_among
decreases-share_among g l = 2 * l.jobs.count
