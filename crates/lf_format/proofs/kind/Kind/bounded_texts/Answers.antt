use Rattle.lf_format.proofs.SameKinds.{bounded_texts-same}
use Rattle.lf_format.proofs.kind.Kind.bounded_texts.Goals as goal

pub returns : goal.returns
returns c = λ least most. bounded_texts-same c.args.class c.args.min c.args.max _ least _ most
