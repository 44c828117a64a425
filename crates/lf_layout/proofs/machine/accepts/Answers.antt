use Rattle.std.proofs.Common.{◌∙◌}
use Rattle.lf_layout.proofs.Walks.{reads-accepted}
use Rattle.lf_layout.proofs.machine.accepts.Goals as goal

pub returns : goal.returns
returns c = c.reads.ensures ∙ reads-accepted c.args.places.now c.args.text.now c.requires
