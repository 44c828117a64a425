use Rattle.std.proofs.Common.{sym}
use Rattle.nginx_front.proofs.Names.{name_text}
use Rattle.nginx_front.proofs.variable.named.Goals as goal

pub unreachable-requires : goal.unreachable-requires
unreachable-requires c = c.in_default.ensures.cases.0 (name_text c.args.name.now (sym c.if-not-is_variable_name.ensures))
