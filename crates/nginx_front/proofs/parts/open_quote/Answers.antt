use Rattle.nginx_front.proofs.PartsLaws.{quote_found}
use Rattle.nginx_front.proofs.parts.open_quote.Goals as goal

pub returns : goal.returns
returns c = quote_found c.args.text.now c.split_at.result.1.now c.name_end-start.result c.in_ok-mode.mode c.opened_at.result c.name_end-start.ensures c.split_at.ensures.back c.in_ok-mode.ensures.mode c.opened_at.ensures
