use Rattle.nginx_front.proofs.PartsLaws.{quote_leaves}
use Rattle.nginx_front.proofs.parts.early_end.Goals as goal

pub returns : goal.returns
returns c = quote_leaves c.args.text.now _ c.in_ok-place_by.field-0 c.in_ok-open_quote-in-None.field-0 c.in_ok-grammar.ensures c.in_ok-place_by.ensures c.in-None.is c.in_ok-open_quote-in-None.ensures
