use Rattle.std.proofs.Common.{refl, sym}
use Rattle.nginx_front.proofs.Names.{braced_gives, open_fails}
use Rattle.nginx_front.proofs.variable.braced.Goals as goal

pub returns-then-is_empty : goal.returns-then-is_empty
returns-then-is_empty c = open_fails (record { escape = c.args.escape }) c.args.text.now c.cut_before.result.1.now c.cut_before.ensures.back (sym c.if-is_empty.ensures)

pub returns : goal.returns
returns c = braced_gives c.args.escape c.args.text.now c.cut_before.result.0.now c.cut_before.result.1.now _ c.named.result c.cut_before.ensures.front c.cut_before.ensures.back (sym c.if-is_empty.ensures) refl c.named.ensures
