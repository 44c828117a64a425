use Rattle.std.proofs.Common.{sym, ◌∙◌}
use Rattle.nginx_front.proofs.Names.{name_is}
use Rattle.nginx_front.proofs.variable.is_variable_name.Goals as goal

pub returns : goal.returns
returns c = c.are_word_bytes.ensures ∙ name_is c.args.name.now (sym c.if-is_empty.ensures)
