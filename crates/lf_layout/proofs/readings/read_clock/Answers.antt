use Rattle.lf_layout.proofs.ReadingSteps.{clock-accepted}
use Rattle.lf_layout.proofs.readings.read_clock.Goals as goal

pub returns : goal.returns
returns c =
    clock-accepted c.args.places.now c.args.text.now c.requires.places c.if-not-accepts.ensures c.second_at.result c.second_at.ensures.exact
