use Rattle.std.proofs.Common.{refl}
use Rattle.lf_spelling.proofs.Joining.{built_slot}
use Rattle.lf_spelling.proofs.built.Built.add_slot.Goals as goal

pub returns : goal.returns
returns c = built_slot c.args.self.now c.close.new.self _ c.args.slot c.in_ok-close.ensures c.in_ok-push.ensures.items refl refl
