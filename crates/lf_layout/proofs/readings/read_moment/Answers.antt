use Rattle.lf_layout.proofs.ReadingSteps.{moment-refused, moment-accepted}
use Rattle.lf_layout.proofs.readings.read_moment.Goals as goal

pub returns-then-not-accepts : goal.returns-then-not-accepts
returns-then-not-accepts c =
    moment-refused c.args.layout c.args.places.now c.requires.placed c.requires.places c.args.text.now c.if-not-accepts.ensures

pub returns : goal.returns
returns c =
    moment-accepted c.args.layout c.args.places.now c.requires.placed c.requires.places c.args.text.now c.if-not-accepts.ensures c.moment_at.result c.moment_at.ensures
