use Rattle.std.proofs.Common.{bit_and}
use Rattle.lf_letters.proofs.Lanes16.{SwzOk-low, low-entry, long-swizzled}
use Rattle.lf_letters.proofs.rows.at_low.Goals as goal

pub swizzle : goal.swizzle
swizzle c = SwzOk-low c.args.lanes c.fits-lanes.0

pub returns-clause-long : goal.returns-clause-long
returns-clause-long c = long-swizzled bit_and c.args.lanes 15 c.fits-lanes.0 c.args.entries

pub returns-clause-entry : goal.returns-clause-entry
returns-clause-entry c = low-entry c.args.entries c.args.lanes c.fits-lanes.0
