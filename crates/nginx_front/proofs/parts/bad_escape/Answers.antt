use Rattle.nginx_front.proofs.PartsLaws.{no_bad, no_bad_there}
use Rattle.nginx_front.proofs.parts.bad_escape.Goals as goal

pub returns-in-Some : goal.returns-in-Some
returns-in-Some c = no_bad c.args.text.now c.split_at.result.1.now c.word_place-at.result c.escape_at.result c.in-Some.field-0 c.word_place-at.ensures c.split_at.ensures.back c.escape_at.ensures c.in-Some.is

pub returns : goal.returns
returns c = no_bad_there c.args.text.now c.split_at.result.0.now c.word_place-at.result _ c.in_ok-place_by.field-0 c.in-Some-2.field-0 c.word_place-at.ensures c.split_at.ensures.front c.in_ok-grammar.ensures c.in_ok-place_by.ensures c.in-Some-2.is
