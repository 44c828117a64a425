use Rattle.lf_map.proofs.Grown.{blank_pushed}
use Rattle.lf_map.proofs.parsing.blank.Goals as goal

pub loop-k-preserved : goal.loop-k-preserved
loop-k-preserved c = blank_pushed c.loop-k.form.items c.push.new.self.items c.loop-k._k c.in_ok-push.ensures.items c.loop-k.invariant
