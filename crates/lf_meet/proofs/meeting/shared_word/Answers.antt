use Rattle.std.proofs.Common.{length}
use Rattle.lf_core.specs.Written.{machine_of}
use Rattle.lf_product.proofs.RunPairs.{suffices_from_shares}
use Rattle.lf_meet.proofs.meeting.shared_word.Goals as goal

pub returns-in_default : goal.returns-in_default
returns-in_default c =
    λ word h. c.in_default.ensures (length word) (suffices_from_shares (machine_of c.args.pairs.now) word c.args.from.left c.args.from.right c.args.from.differed h)
