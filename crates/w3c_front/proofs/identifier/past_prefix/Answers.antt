use Rattle.std.proofs.Common.{sym}
use Rattle.w3c_front.proofs.Cuts.{not_prefixed}
use Rattle.w3c_front.proofs.identifier.past_prefix.Goals as goal

pub returns-then-not-is_prefix : goal.returns-then-not-is_prefix
returns-then-not-is_prefix c = sym (not_prefixed c.args.language c.args.mark c.args.name.now c.cut_before.result.0.now c.cut_before.ensures.front (sym c.if-not-is_prefix.ensures))
