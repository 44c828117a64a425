use Rattle.lf_format.proofs.SameKinds.{texts-same}
use Rattle.lf_format.proofs.kind.Kind.texts.Goals as goal

pub returns : goal.returns
returns c = λ fits. texts-same c.args.class c.args.min _ fits _
