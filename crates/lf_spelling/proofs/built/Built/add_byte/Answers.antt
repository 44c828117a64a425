use Rattle.std.proofs.Common.{refl}
use Rattle.lf_spelling.proofs.Joining.{built_byte}
use Rattle.lf_spelling.proofs.built.Built.add_byte.Goals as goal

pub returns-clause-built : goal.returns-clause-built
returns-clause-built c = built_byte c.args.self.now _ c.args.byte refl c.in_ok-push.ensures.ok refl
