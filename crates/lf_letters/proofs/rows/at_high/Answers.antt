use Rattle.std.proofs.Common.{◌/◌, ◌^◌}
use Rattle.lf_letters.proofs.Lanes16.{SwzOk-high, high-entry, long-swizzled}
use Rattle.lf_letters.proofs.rows.at_high.Goals as goal

pub swizzle : goal.swizzle
swizzle c = SwzOk-high c.args.lanes c.fits-lanes.0 c.fits-lanes.1

pub returns-clause-long : goal.returns-clause-long
returns-clause-long c = long-swizzled (λ a b. a / 2 ^ b) c.args.lanes 4 c.fits-lanes.0 c.args.entries

pub returns-clause-entry : goal.returns-clause-entry
returns-clause-entry c = high-entry c.args.lanes c.fits-lanes.0 c.fits-lanes.1 c.args.entries
