use Rattle.std.proofs.Common.{sym, subst}
use Rattle.lf_gen.specs.Compared.{AreEnough}
use Rattle.lf_gen.proofs.Lifted.{first-enough}
use Rattle.lf_gen.proofs.enough.enough_values.Goals as goal

pub returns : goal.returns
returns c =
    let slot = c.args.slot.now in
    subst (AreEnough slot) (sym c.in_ok-push.ensures.items) (first-enough slot c.in_ok-values.values.items c.in_ok-values.ensures)
