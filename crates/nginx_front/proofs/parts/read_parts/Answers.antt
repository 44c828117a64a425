use Rattle.std.proofs.Common.{arith}
use Rattle.nginx_front.proofs.PartsLaws.{strings_inside, same_spelled}
use Rattle.nginx_front.proofs.parts.read_parts.Goals as goal

pub split_at-requires-2 : goal.split_at-requires-2
split_at-requires-2 c = omega (arith, c.strings_place-start.ensures, strings_inside c.args.text.now)

pub returns : goal.returns
returns c = λ escape given is. same_spelled c.args.text.now c.split_at.result.1.now c.split_at-2.result.1.now c.word_place.result c.strings_place-start.result c.escape_at.result escape c.unwrap_or-escape.result c.in_ok-given.given.items given
    c.word_place.ensures c.split_at.ensures.back c.escape_at.ensures c.unwrap_or-escape.ensures c.strings_place-start.ensures c.split_at-2.ensures.back c.in_ok-given.ensures.given is
